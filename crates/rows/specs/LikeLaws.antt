-- What keeps each record's header and length keeps the walk.
use Rattle.std.specs.Prelude.{Bool, true, false, ◌≡◌, refl, leb, length, take, drop, List, [], ◌∷◌, ◌++◌, map, ℕ, zero, suc, ◌≤◌, ◌<◌, min}
use Rattle.std.proofs.Common.{append-nil, append_assoc, sym, ap, ◌∙◌, arith, leb-true, leb-false, length-take, length-drop, length-append, drop_of_length-le, take-take, take_all, take_at, drop_at}
use Rattle.std.proofs.Math.Seq.{drop-append_seam}
use Rattle.std.proofs.lemmas.List.{take-append-le}
use Rattle.octets.specs.Lists.{on_nth}
use Rattle.rows.specs.Records.{size, chunks, join, whole, Alike, Like, none, more}
use Rattle.rows.specs.WalkLaws.{size_same, six_size, chunks-none, chunks-on, join-chunks}

-- ---- alike

pub whole_same : (c d : List ℕ) → Alike c d → whole c ≡ whole d
unfolding whole
whole_same c d a = rw (size_same c d a.0, a.1)

-- the first record of a row has the row's header
pub size-first : (l : List ℕ) → size (take (size l) l) ≡ size l
size-first l = size_same (take (size l) l) l (take-take 6 (size l) l (six_size l))

pub like-refl : (cs : List (List ℕ)) → Like cs cs
like-refl [] = none
like-refl (c ∷ cs) = more (refl, refl) (like-refl cs)

pub like_sym : {cs ds : List (List ℕ)} → Like cs ds → Like ds cs
like_sym none = none
like_sym (more a r) = more (sym a.0, sym a.1) (like_sym r)

pub like-trans : {cs ds es : List (List ℕ)} → Like cs ds → Like ds es → Like cs es
like-trans none none = none
like-trans (more a r) (more b s) = more (a.0 ∙ b.0, a.1 ∙ b.1) (like-trans r s)

-- one record changed, the others as they were
pub like_one : (xs : List (List ℕ)) (c d : List ℕ) (ys : List (List ℕ)) → Alike c d → Like (xs ++ (c ∷ ys)) (xs ++ (d ∷ ys))
like_one [] c d ys a = more a (like-refl ys)
like_one (x ∷ xs) c d ys a = more (refl, refl) (like_one xs c d ys a)

module _ (g : List ℕ → List ℕ) (keeps : (c : List ℕ) → Alike c (g c)) where
  pub like-map : (cs : List (List ℕ)) → Like cs (map g cs)
  like-map [] = none
  like-map (c ∷ cs) = more (keeps c) (like-map cs)

  pub like-on_nth : (p : ℕ) (cs : List (List ℕ)) → Like cs (on_nth p g cs)
  unfolding on_nth
  like-on_nth p [] = none
  like-on_nth zero (c ∷ cs) = more (keeps c) (like-refl cs)
  like-on_nth (suc p) (c ∷ cs) = more (refl, refl) (like-on_nth p cs)

-- ---- the records joined

pub join-append : (xs ys : List (List ℕ)) → join (xs ++ ys) ≡ join xs ++ join ys
unfolding join
join-append [] ys = refl
join-append (a ∷ xs) ys = rw (join-append xs ys) (sym (append_assoc a (join xs) (join ys)))

pub length-join : {cs ds : List (List ℕ)} → Like cs ds → length (join cs) ≡ length (join ds)
unfolding join
length-join none = refl
length-join (more {c} {d} {cs} {ds} a r) = rw (length-append c (join cs), length-append d (join ds), a.1, length-join r)

-- ---- the walk of joined records

-- a row of records is a walk where cutting what they join to gives them again
abbrev pub Walk : List (List ℕ) → Type 0
Walk cs = chunks (join cs) ≡ cs

pub walk-chunks : (l : List ℕ) → Walk (chunks l)
walk-chunks l = rw (join-chunks l)

-- a whole record in front is the first record
pub chunks-whole : (d rest : List ℕ) → length d ≡ size d → chunks (d ++ rest) ≡ d ∷ chunks rest
chunks-whole d rest e =
    let six = six_size d in
    let some : 0 < length (d ++ rest) = rw length-append (omega arith) in
    let same : size (d ++ rest) ≡ size d = size_same (d ++ rest) d (take-append-le 6 d rest (omega arith)) in
    rw (chunks-on (d ++ rest) some, same, take_at d rest (size d) e, drop_at d rest (size d) e)

-- a record with nothing behind it, cut or not, is the only one
pub chunks_only : (d : List ℕ) → 0 < length d → length d ≤ size d → chunks d ≡ d ∷ []
chunks_only d some h =
    let none : drop (size d) d ≡ [] = drop_of_length-le d h in
    rw (chunks-on d some, take_all (size d) d h, none, chunks-none)

-- two cases of a test
pub by_test : {P : Type 0} (b : Bool) → (b ≡ true → P) → (b ≡ false → P) → P
by_test true f g = f refl
by_test false f g = g refl

-- a record in front of a rest, alike to the first record of a row whose rest is as long
chunks-front : (l d rest : List ℕ) → 0 < length l → Alike (take (size l) l) d → length (drop (size l) l) ≡ length rest → chunks (d ++ rest) ≡ d ∷ chunks rest
chunks-front l d rest some a e = by_test (leb (size l) (length l)) enough short
  where
    same : size d ≡ size l
    same = sym (size_same (take (size l) l) d a.0) ∙ size-first l

    long : min (size l) (length l) ≡ length d
    long = sym (length-take (size l) l) ∙ a.1

    enough : leb (size l) (length l) ≡ true → chunks (d ++ rest) ≡ d ∷ chunks rest
    enough t = let h = leb-true (size l) (length l) t in chunks-whole d rest (omega (arith, same, long))

    nothing : (r : List ℕ) → length r ≡ 0 → r ≡ []
    nothing [] z = refl
    nothing (x ∷ r) z = absurd (omega arith)

    short : leb (size l) (length l) ≡ false → chunks (d ++ rest) ≡ d ∷ chunks rest
    short t =
        let h = leb-false (size l) (length l) t in
        let z : length rest ≡ 0 = sym e ∙ rw length-drop (omega arith) in
        rw (nothing rest z, append-nil, chunks-none) (chunks_only d (omega (arith, long)) (omega (arith, same, long)))

some_bytes : (l : List ℕ) (c : List ℕ) (cs : List (List ℕ)) → chunks l ≡ c ∷ cs → 0 < length l
some_bytes [] c cs e = let z : ◌≡◌ {A = ℕ} 0 1 = cc (chunks-none) in omega arith
some_bytes (b ∷ l) c cs e = omega arith

-- the first record of a walk, and the walk behind it
pub chunks-first : (l : List ℕ) (c : List ℕ) (cs : List (List ℕ)) → chunks l ≡ c ∷ cs → (c ≡ take (size l) l) × (cs ≡ chunks (drop (size l) l))
chunks-first l c cs e = let on = chunks-on l (some_bytes l c cs e) in (cc, cc)

pub walk-tail : (c : List ℕ) (cs : List (List ℕ)) → Walk (c ∷ cs) → Walk cs
walk-tail c cs e = let rest = (chunks-first (join (c ∷ cs)) c cs e).1 in rw rest (walk-chunks (drop (size (join (c ∷ cs))) (join (c ∷ cs))))

-- what is alike to a walk, record by record, is a walk
pub walk-like : {cs ds : List (List ℕ)} → Walk cs → Like cs ds → Walk ds
unfolding join
walk-like w none = w
walk-like w (more {c} {d} {cs} {ds} a r) =
    let l = c ++ join cs in
    let first = chunks-first l c cs w in
    let rest : join cs ≡ drop (size l) l = ap join first.1 ∙ join-chunks (drop (size l) l) in
    let long : length (drop (size l) l) ≡ length (join ds) = ap length (sym rest) ∙ length-join r in
    let front : Alike (take (size l) l) d = rw first.0 at a in
    rw (chunks-front l d (join ds) (some_bytes l c cs w) front long, walk-like (walk-tail c cs w) r)

-- "what keeps each record's header and length keeps the walk"
pub rechunk : (l : List ℕ) {ds : List (List ℕ)} → Like (chunks l) ds → chunks (join ds) ≡ ds
rechunk l r = walk-like (walk-chunks l) r

-- behind some records of a row the walk goes on as it did
pub chunks-behind : (xs ys : List (List ℕ)) (l : List ℕ) → chunks l ≡ xs ++ ys → chunks (drop (length (join xs)) l) ≡ ys
chunks-behind xs ys l e =
    let all : l ≡ join xs ++ join ys = sym (join-chunks l) ∙ ap join e ∙ join-append xs ys in
    rw (all, drop-append_seam) (tail xs (rw e at (walk-chunks l)))
  where
    tail : (zs : List (List ℕ)) → Walk (zs ++ ys) → Walk ys
    tail [] w = w
    tail (z ∷ zs) w = tail zs (walk-tail z (zs ++ ys) w)
