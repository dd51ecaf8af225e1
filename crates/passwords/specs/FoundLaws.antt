-- What an answer of `find` tells: the record's name, where its digest stands, and how many records were read.
use Rattle.std.specs.Prelude.{Bool, true, false, List, [], ◌∷◌, ◌≡◌, refl, ℕ, suc, ◌+◌, ◌<◌, length, get_or, Option, Some, None}
use Rattle.std.proofs.Common.{sym, ap, ◌∙◌, zero-add, arith}
use Rattle.octets.specs.Same.{same_bytes, same-eq}
use Rattle.rows.specs.Records.{chunks}
use Rattle.passwords.specs.declared.Lookup.{Lookup}
use Rattle.passwords.specs.declared.Entry.{Entry}
use Rattle.passwords.specs.Account.{digest_start, name}
use Rattle.passwords.specs.Walk.{span_from, span_of}
use Rattle.passwords.specs.WalkLaws.{clash}
use Rattle.passwords.specs.PasswordFile.{named, count, in_record, nowhere, find_from, find, record_at, name_at, digest_place}
use Rattle.passwords.specs.FileLaws.{is_found, named-find}

-- ---- two answers

-- none is in no record and in one
no_record : {P : Type 0} → (read number place count : ℕ) → nowhere read ≡ in_record number place count → P
no_record read number place count e =
    let s : ◌≡◌ {A = Option Entry} None (Some (record { number = number; digest = place })) = ap (λ (l : Lookup). l.entry) e in clash (cc)

pub same_record : {a p m b q n : ℕ} → in_record a p m ≡ in_record b q n → (a ≡ b) × (p ≡ q) × (m ≡ n)
same_record {a} {p} {m} {b} {q} {n} e =
    let s : ◌≡◌ {A = Option Entry} (Some (record { number = a; digest = p })) (Some (record { number = b; digest = q })) = ap (λ (l : Lookup). l.entry) e in
    let t : ◌≡◌ {A = Entry} (record { number = a; digest = p }) (record { number = b; digest = q }) = cc in
    (ap (λ (r : Entry). r.number) t, ap (λ (r : Entry). r.digest) t, ap (λ (l : Lookup). l.count) e)

-- an answer with an entry, by its parts
pub entered : (l : Lookup) (e : Entry) → l.entry ≡ Some e → l ≡ in_record e.number e.digest l.count
entered l e h = ap (λ (x : Option Entry). record { entry = x; count = l.count }) h

-- ---- found

-- the record found is the one `behind` others, of those from place `at` on, where `before` were read before
record FoundFrom (n : List ℕ) (before at : ℕ) (cs : List (List ℕ)) (i place count : ℕ) : Type 0 where
  pub behind : ℕ
  pub numbered : i ≡ before + behind
  pub inside : behind < length cs
  pub has_name : name (get_or cs behind []) ≡ n
  pub stands : place ≡ (span_from at behind cs).place + digest_start
  pub counted : count ≡ i + 1

found_from : (n : List ℕ) (before at : ℕ) (cs : List (List ℕ)) (i place count : ℕ) → find_from n before at cs ≡ in_record i place count
    → FoundFrom n before at cs i place count
unfolding find_from span_from
found_from n before at [] i place count e = no_record before i place count e
found_from n before at (c ∷ cs) i place count e = go (same_bytes (name c) n) refl (found_from n (before + 1) (at + length c) cs i place count)
  where
    go : (t : Bool) → same_bytes (name c) n ≡ t → (find_from n (before + 1) (at + length c) cs ≡ in_record i place count → FoundFrom n (before + 1) (at + length c) cs i place count)
        → FoundFrom n before at (c ∷ cs) i place count
    go true s rest =
        let here : in_record before (at + digest_start) (before + 1) ≡ in_record i place count = rw s at e in
        let same = same_record here in
        let number = same.0 in
        let stands_there = same.1 in
        let raised = same.2 in
        record { behind = 0; numbered = omega arith; inside = omega arith; has_name = same-eq (name c) n s; stands = sym stands_there; counted = omega arith }
    go false s rest =
        let r = rest (rw s at e) in
        let number = r.numbered in
        let low = r.inside in
        record { behind = suc r.behind; numbered = omega arith; inside = omega arith; has_name = r.has_name; stands = r.stands; counted = r.counted }

-- "the records read, up to and with the named one"
pub record Found (n file : List ℕ) (i place total : ℕ) : Type 0 where
  pub is_record : i < count file
  pub has_name : name_at i file ≡ n
  pub stands : place ≡ digest_place i file
  pub counted : total ≡ i + 1

pub found : (n file : List ℕ) (i place total : ℕ) → find n file ≡ in_record i place total → Found n file i place total
unfolding find count name_at record_at digest_place span_of
found n file i place total e =
    let r = found_from n 0 0 (chunks file) i place total e in
    let number : i ≡ r.behind = r.numbered ∙ zero-add r.behind in
    record { is_record = rw number r.inside; has_name = rw number r.has_name; stands = rw number r.stands; counted = r.counted }

-- ---- not found

missed-from : (n : List ℕ) (before at : ℕ) (cs : List (List ℕ)) (count : ℕ) → find_from n before at cs ≡ nowhere count → count ≡ before + length cs
unfolding find_from
missed-from n before at [] count e = let z = ap (λ (l : Lookup). l.count) e in omega arith
missed-from n before at (c ∷ cs) count e = go (same_bytes (name c) n) refl (missed-from n (before + 1) (at + length c) cs count)
  where
    go : (t : Bool) → same_bytes (name c) n ≡ t → (find_from n (before + 1) (at + length c) cs ≡ nowhere count → count ≡ before + 1 + length cs) → count ≡ before + length (c ∷ cs)
    go true s rest = let here : in_record before (at + digest_start) (before + 1) ≡ nowhere count = rw s at e in no_record count before (at + digest_start) (before + 1) (sym here)
    go false s rest = let r = rest (rw s at e) in omega arith

-- "or all of them"
pub missed : (n file : List ℕ) (total : ℕ) → find n file ≡ nowhere total → (total ≡ count file) × (named n (chunks file) ≡ false)
unfolding find count is_found
missed n file total e = (missed-from n 0 0 (chunks file) total e ∙ zero-add (length (chunks file)), sym (rw e at (named-find n file)))
