-- `begin::files::password_files` meets its contract: each place is asked for by its number. Assumes nothing.
use Rattle.std.proofs.Common.{rules}
use Rattle.begin.specs.Files.{password_file, password_files}
use Rattle.begin.proofs.Made.{made}
use Rattle.begin.proofs.files.password_files.Goals as goal

pub returns : goal.returns
unfolding password_files
returns c = made _ _ (password_file c.args.setup.now c.args.store.now) _ (λ i r q k. search rules) 8 c.from_fn.ensures.items
