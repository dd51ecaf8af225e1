-- `accounts::renew` meets its contract: the digest is that of the string. Assumes nothing.
use Rattle.accounts.specs.SetPassword.{file_image}
use Rattle.accounts.proofs.renew.Goals as goal

pub returns : goal.returns
unfolding file_image
returns c = rw (c.set_digest.ensures, c.digest-digest.ensures, c.string_of.ensures, c.place_of-place.ensures)
