-- `begin::files::dseg_files` meets its contract: each place is asked for by its number. Assumes nothing.
use Rattle.std.proofs.Common.{rules}
use Rattle.begin.specs.Files.{dseg_file, dseg_files}
use Rattle.begin.proofs.Made.{made}
use Rattle.begin.proofs.files.dseg_files.Goals as goal

pub returns : goal.returns
unfolding dseg_files
returns c = let args = c.args in
    made _ _ (dseg_file args.setup.now args.text.now args.store.now) _ (λ i r q k. search rules) 16 c.from_fn.ensures.items
