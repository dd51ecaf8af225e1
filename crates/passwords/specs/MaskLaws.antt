-- The file with every digest blanked: what it keeps, and that no change of a digest is seen in it.
use Rattle.std.specs.Prelude.{List, [], ◌∷◌, map, ◌≡◌, length, take, refl, ℕ, zero, suc, ◌-◌}
use Rattle.std.proofs.Common.{ap, sym, ◌∙◌}
use Rattle.octets.specs.Lists.{over, on_nth}
use Rattle.rows.specs.Records.{chunks, join, Like}
use Rattle.passwords.specs.Account.{changed, blanked}
use Rattle.passwords.specs.AccountLaws.{blanked-changed, blanked-twice, same-blanked}
use Rattle.passwords.specs.PasswordFile.{well_formed, find, name_at, digest_place, with_digest, mask_digests}
use Rattle.passwords.specs.SameLaws.{SameUsers, same_map, same-like, same-chunks, same_users, users-length, users-wellFormed, users-find, users-nameAt}
use Rattle.passwords.specs.ChangeLaws.{chunks-changed, broken_off}

pub chunks_masked : (file : List ℕ) → chunks (mask_digests file) ≡ map blanked (chunks file)
unfolding mask_digests
chunks_masked file = same-chunks file (same_map blanked same-blanked (chunks file))

-- ---- what the mask keeps

pub masked_users : (file : List ℕ) → SameUsers file (mask_digests file)
unfolding mask_digests
masked_users file = same_users file (same_map blanked same-blanked (chunks file))

pub mask-length : (file : List ℕ) → length (mask_digests file) ≡ length file
mask-length file = sym (users-length (masked_users file))

pub mask-walk : (file : List ℕ) → Like (chunks file) (chunks (mask_digests file))
mask-walk file = same-like (masked_users file).accounts

pub mask-name_at : (i : ℕ) (file : List ℕ) → name_at i (mask_digests file) ≡ name_at i file
mask-name_at i file = sym (users-nameAt (masked_users file) i)

pub mask-find : (n file : List ℕ) → find n (mask_digests file) ≡ find n file
mask-find n file = sym (users-find (masked_users file) n)

pub mask-well_formed : (file : List ℕ) → well_formed (mask_digests file) ≡ well_formed file
mask-well_formed file = sym (users-wellFormed (masked_users file))

-- ---- what the mask hides

module _ (g f : List ℕ → List ℕ) (hides : (c : List ℕ) → g (f c) ≡ g c) where
  map-on_nth : (i : ℕ) (cs : List (List ℕ)) → map g (on_nth i f cs) ≡ map g cs
  unfolding on_nth
  map-on_nth i [] = refl
  map-on_nth zero (c ∷ cs) = rw (hides c)
  map-on_nth (suc i) (c ∷ cs) = rw (map-on_nth i cs)

  map_again : (cs : List (List ℕ)) → map g (map f cs) ≡ map g cs
  map_again [] = refl
  map_again (c ∷ cs) = rw (hides c, map_again cs)

pub mask-twice : (file : List ℕ) → mask_digests (mask_digests file) ≡ mask_digests file
unfolding mask_digests
mask-twice file = ap (λ (cs : List (List ℕ)). join (map blanked cs)) (chunks_masked file) ∙ ap join (map_again blanked blanked blanked-twice (chunks file))

pub mask-changed : (i : ℕ) (new file : List ℕ) → mask_digests (with_digest i new file) ≡ mask_digests file
unfolding mask_digests
mask-changed i new file =
    ap (λ (cs : List (List ℕ)). join (map blanked cs)) (chunks-changed i new file)
    ∙ ap join (map-on_nth blanked (changed new) (blanked-changed new) i (chunks file))

pub mask-broken : (k i : ℕ) (new file : List ℕ) → mask_digests (over (take k (with_digest i new file)) file) ≡ mask_digests file
mask-broken k i new file = rw (broken_off k i new file) (mask-changed i (take (k - digest_place i file) new) file)
