-- Files that may differ in digests alone: the walk, the names, `find` with its count, and well-formedness are the same.
use Rattle.std.specs.Prelude.{List, [], ◌∷◌, map, ◌≡◌, refl, length, get_or, ℕ, zero, suc, ◌+◌}
use Rattle.std.proofs.Common.{sym, ap, ◌∙◌}
use Rattle.octets.specs.Lists.{on_nth}
use Rattle.rows.specs.Records.{chunks, join, Like, none, more}
use Rattle.rows.specs.WalkLaws.{join-chunks}
use Rattle.rows.specs.LikeLaws.{length-join, rechunk}
use Rattle.passwords.specs.Account.{name}
use Rattle.passwords.specs.AccountLaws.{SameAccount, same-shaped, same-obeys}
use Rattle.passwords.specs.Walk.{span_from, span_of}
use Rattle.passwords.specs.PasswordFile.{all_obey, named, distinct, well_formed, all_shaped, sound, count, find_from, find, record_at, name_at, digest_place}

-- the same accounts one by one
pub data SameAccounts : List (List ℕ) → List (List ℕ) → Type 0 where
  nobody : SameAccounts [] []
  and : {c d : List ℕ} {cs ds : List (List ℕ)} → SameAccount c d → SameAccounts cs ds → SameAccounts (c ∷ cs) (d ∷ ds)

-- two files whose records are the same accounts
pub record SameUsers (file other : List ℕ) : Type 0 where
  pub accounts : SameAccounts (chunks file) (chunks other)

-- ---- where it comes from

pub same_refl : (cs : List (List ℕ)) → SameAccounts cs cs
same_refl [] = nobody
same_refl (c ∷ cs) = and ((refl, refl), refl) (same_refl cs)

module _ (g : List ℕ → List ℕ) (keeps : (c : List ℕ) → SameAccount c (g c)) where
  pub same_map : (cs : List (List ℕ)) → SameAccounts cs (map g cs)
  same_map [] = nobody
  same_map (c ∷ cs) = and (keeps c) (same_map cs)

  pub same-on_nth : (i : ℕ) (cs : List (List ℕ)) → SameAccounts cs (on_nth i g cs)
  unfolding on_nth
  same-on_nth i [] = nobody
  same-on_nth zero (c ∷ cs) = and (keeps c) (same_refl cs)
  same-on_nth (suc i) (c ∷ cs) = and ((refl, refl), refl) (same-on_nth i cs)

-- the walk is kept
pub same-like : {cs ds : List (List ℕ)} → SameAccounts cs ds → Like cs ds
same-like nobody = none
same-like (and s r) = more s.0 (same-like r)

pub same-chunks : (file : List ℕ) {ds : List (List ℕ)} → SameAccounts (chunks file) ds → chunks (join ds) ≡ ds
same-chunks file s = rechunk file (same-like s)

pub same_users : (file : List ℕ) {ds : List (List ℕ)} → SameAccounts (chunks file) ds → SameUsers file (join ds)
same_users file s = record { accounts = rw (same-chunks file s) s }

-- ---- what it keeps of some records

same_count : {cs ds : List (List ℕ)} → SameAccounts cs ds → length cs ≡ length ds
same_count nobody = refl
same_count (and s r) = ap suc (same_count r)

same-all_obey : {cs ds : List (List ℕ)} → SameAccounts cs ds → all_obey cs ≡ all_obey ds
unfolding all_obey
same-all_obey nobody = refl
same-all_obey (and {c} {d} s r) = rw (same-obeys c d s, same-all_obey r)

same-all_shaped : {cs ds : List (List ℕ)} → SameAccounts cs ds → all_shaped cs ≡ all_shaped ds
unfolding all_shaped
same-all_shaped nobody = refl
same-all_shaped (and {c} {d} s r) = rw (same-shaped c d s, same-all_shaped r)

same-named : (n : List ℕ) {cs ds : List (List ℕ)} → SameAccounts cs ds → named n cs ≡ named n ds
unfolding named
same-named n nobody = refl
same-named n (and s r) = rw (s.1, same-named n r)

same-distinct : {cs ds : List (List ℕ)} → SameAccounts cs ds → distinct cs ≡ distinct ds
unfolding distinct
same-distinct nobody = refl
same-distinct (and {c} {d} s r) = rw (s.1, same-named (name d) r, same-distinct r)

same-find_from : (n : List ℕ) (before at : ℕ) {cs ds : List (List ℕ)} → SameAccounts cs ds → find_from n before at cs ≡ find_from n before at ds
unfolding find_from
same-find_from n before at nobody = refl
same-find_from n before at (and {c} {d} s r) = rw (s.1, s.0.1, same-find_from n (before + 1) (at + length d) r)

same-span_from : (at i : ℕ) {cs ds : List (List ℕ)} → SameAccounts cs ds → span_from at i cs ≡ span_from at i ds
unfolding span_from
same-span_from at i nobody = refl
same-span_from at zero (and s r) = rw s.0.1
same-span_from at (suc i) (and {c} {d} {cs} s r) = ap (λ (m : ℕ). span_from (at + m) i cs) s.0.1 ∙ same-span_from (at + length d) i r

same_name : (i : ℕ) {cs ds : List (List ℕ)} → SameAccounts cs ds → name (get_or cs i []) ≡ name (get_or ds i [])
same_name i nobody = refl
same_name zero (and s r) = s.1
same_name (suc i) (and s r) = same_name i r

-- ---- what it keeps of a file

module _ {file other : List ℕ} (s : SameUsers file other) where
  pub users-length : length file ≡ length other
  users-length = ap length (sym (join-chunks file)) ∙ length-join (same-like s.accounts) ∙ ap length (join-chunks other)

  pub users-count : count file ≡ count other
  unfolding count
  users-count = same_count s.accounts

  pub users-sound : sound file ≡ sound other
  unfolding sound count
  users-sound = rw (same-all_shaped s.accounts, same_count s.accounts)

  pub users-wellFormed : well_formed file ≡ well_formed other
  unfolding well_formed count
  users-wellFormed = rw (same-all_obey s.accounts, same_count s.accounts, same-distinct s.accounts)

  -- with its number, the place of its digest and the count
  pub users-find : (n : List ℕ) → find n file ≡ find n other
  unfolding find
  users-find n = same-find_from n 0 0 s.accounts

  pub users-nameAt : (i : ℕ) → name_at i file ≡ name_at i other
  unfolding name_at record_at
  users-nameAt i = same_name i s.accounts

  pub users-span : (i : ℕ) → span_of i file ≡ span_of i other
  unfolding span_of
  users-span i = same-span_from 0 i s.accounts

  pub users-digestPlace : (i : ℕ) → digest_place i file ≡ digest_place i other
  unfolding digest_place
  users-digestPlace i = rw (users-span i)
