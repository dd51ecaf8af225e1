-- Areas too short and bad password files, looked at one by one.
use Rattle.std.specs.Prelude.{Bool, not, ◌&&◌, ◌||◌, List, [], ◌∷◌, ◌++◌, ◌≡◌, refl, ℕ, zero, suc, ◌+◌, ◌*◌, ◌/◌, ◌≤◌, ◌<◌, eqb, ltb, length}
use Rattle.std.specs.List.{enumerate_from, list_any}
use Rattle.std.proofs.Common.{add-zero, zero-add, ap, ◌∙◌, arith, lt-ltb, le-ltb}
use Rattle.std.proofs.Math.Bool.{or_comm, or-false}
use Rattle.std.proofs.lemmas.List.Folds.{list_any-append}
use Rattle.std.proofs.Math.Decide.{dec_le}
use Rattle.passwords.specs.PasswordFile.{well_formed}
use Rattle.rows.specs.LikeLaws.{by_test}
use Rattle.octets.specs.declared.span.Span.{Span}
use Rattle.setup.specs.declared.Setup.{Setup}
use Rattle.setup.specs.Setup.{is_active}
use Rattle.begin.specs.Each.{firsts}
use Rattle.begin.specs.EachLaws.{length-firsts}
use Rattle.begin.specs.Files.{password_path, password_file, password_files}
use Rattle.begin.specs.FilesLaws.{missing_place, found-bytes}
use Rattle.begin.specs.Filled.{file_bytes}
use Rattle.begin.specs.Start.{bad_file, bad_passwords}

-- ---- 415

-- the screens that an area holds are fewer than the partitions
pub screens-short : (bytes n : ℕ) → ltb (bytes / 2000) n ≡ ltb bytes (2000 * n)
screens-short bytes n = go (dec_le (2000 * n) bytes)
  where
    go : Dec (2000 * n ≤ bytes) → ltb (bytes / 2000) n ≡ ltb bytes (2000 * n)
    go (yes h) = let a : n ≤ bytes / 2000 = omega arith in rw (le-ltb (bytes / 2000) n a, le-ltb bytes (2000 * n) h)
    go (no h) =
        let a : bytes / 2000 < n = omega arith in
        let b : bytes < 2000 * n = omega arith in
        rw (lt-ltb (bytes / 2000) n a, lt-ltb bytes (2000 * n) b)

-- ---- 416

enumerate-append : {A : Type 0} (i : ℕ) (xs ys : List A) → enumerate_from i (xs ++ ys) ≡ enumerate_from i xs ++ enumerate_from (i + length xs) ys
enumerate-append i [] ys = rw add-zero
enumerate-append i (x ∷ xs) ys =
    let e : i + suc (length xs) ≡ i + 1 + length xs = omega arith in
    rw (e, enumerate-append (i + 1) xs ys)

module _ (s : Setup) (store : List ℕ) where
  -- what is looked at: an active partition's file
  abbrev pub wrong : ℕ × Span → Bool
  wrong x = is_active s x.0 && (eqb x.1.place 0 || not (well_formed (file_bytes store x.1)))

  bad-one : (p : ℕ) → wrong (p, password_file s store p) ≡ (is_active s p && bad_file (password_path p) store)
  unfolding bad_file password_file
  bad-one p =
      by_test (is_active s p)
      (λ e. rw (e, missing_place (password_path p) store, found-bytes (password_path p) store))
      (λ e. rw e)

  any-bad : (n : ℕ) → list_any wrong (enumerate_from 0 (firsts (password_file s store) n)) ≡ bad_passwords n s store
  unfolding firsts bad_passwords
  any-bad zero = refl
  any-bad (suc n) =
      rw (
        enumerate-append 0 (firsts (password_file s store) n) (password_file s store n ∷ []),
        list_any-append wrong (enumerate_from 0 (firsts (password_file s store) n)),
        length-firsts (password_file s store) n,
        any-bad n,
        zero-add n,
        or-false (wrong (n, password_file s store n)),
      )
      (or_comm (bad_passwords n s store) (wrong (n, password_file s store n)) ∙ ap (λ t. t || bad_passwords n s store) (bad-one n))

  pub all-looked_at : (files : List Span) → files ≡ password_files s store → list_any wrong (enumerate_from 0 files) ≡ bad_passwords 8 s store
  unfolding password_files
  all-looked_at files e = rw e (any-bad 8)
