-- Laws of the set-up as a value: what stands behind its rows, its permission table, paths looked for one by one, permissions in a number.
use Rattle.std.specs.List.{list_any, range_with_len}
use Rattle.std.specs.Prelude.{◌&&◌, eqb, Bool, true, false, ◌||◌, not, List, [], ◌∷◌, ◌++◌, map, ◌≡◌, refl, ℕ, zero, suc, ◌+◌, ◌-◌, ◌*◌, ◌/◌, ◌%◌, ◌^◌, ◌≤◌, ◌<◌, take, drop, get_or, set, replicate, length}
use Rattle.std.proofs.Common.{add-zero, zero-add, ap, append_assoc, append-nil, ◌∙◌, le_of_suc-le-suc, not-suc-le-zero, pow-suc, add-one, lt-ltb, le-ltb, drop_of_length-le, take-suc, take-suc-set, take_all, sym, lt_of_lt_of_le, arith, length-append, drop-cons, get_or-append-add}
use Rattle.std.proofs.lemmas.List.Folds.{list_any-append, list_any_more}
use Rattle.std.proofs.Math.Decide.{dec_le}
use Rattle.std.proofs.Math.Bool.{or_comm, and-false, or-false, or_assoc}
use Rattle.std.proofs.Math.ListN.{get_or-eq_default, get_or-append, get_or-map, length-map}
use Rattle.std.proofs.Math.Nat.{pow-le-pow_right, div-eq_of_lt}
use Rattle.std.proofs.Math.Seq.{set_out}
use Rattle.std.proofs.lemmas.List.{replicate-append-replicate}
use Rattle.octets.specs.Same.{same_bytes}
use Rattle.image.specs.Image.{spot, was_found}
use Rattle.octets.specs.declared.span.Span.{Span}
use Rattle.setup.specs.declared.Segment.{Segment}
use Rattle.setup.specs.declared.Setup.{Setup}
use Rattle.octets.specs.Spans.{no_span, bytes_of}
use Rattle.setup.specs.Setup.{no_segment, is_active, has_code, among, paths_of, permission_of, with_code}
use Rattle.setup.specs.Rules.{absent, some_writes, some_active, code_missing}
use Rattle.setup.specs.Reading.{permission_table}

-- ---- what stands behind the rows

pub active_out : (s : Setup) (p : ℕ) → length s.active ≤ p → false ≡ is_active s p
unfolding is_active
active_out s p h = rw (get_or-eq_default s.active false h, and-false)

pub code_out : (s : Setup) (p : ℕ) → length s.code ≤ p → false ≡ has_code s p
unfolding has_code
code_out s p h = rw (get_or-eq_default s.code no_span h)

pub code-kept : (s : Setup) (p : ℕ) (path : Span) → length s.code ≤ p → s ≡ with_code p path s
unfolding with_code
code-kept s p path h = rw (set_out s.code p path h)

-- what an array of segments is read by
abbrev pub blank : Segment
blank = record { path = no_span; size = 0; host = 0; permissions = [] }

-- ---- lists

module _ {A : Type 0} where
  pub get_or_any : (l : List A) (i : ℕ) (d e : A) → i < length l → get_or l i d ≡ get_or l i e
  get_or_any [] i d e h = absurd (not-suc-le-zero h)
  get_or_any (b ∷ l) zero d e h = refl
  get_or_any (b ∷ l) (suc i) d e h = get_or_any l i d e (le_of_suc-le-suc h)

  -- a row that is filled in order with the elements of another
  pub fill_step : (row all : List A) (i : ℕ) (d : A) → i < length row → i < length all → take i row ≡ take i all
      → take (i + 1) (set row i (get_or all i d)) ≡ take (i + 1) all
  fill_step row all i d h k e = rw (add-one, take-suc-set row i (get_or all i d) h, take-suc all i d k, e)

  pub fill_end : (row all : List A) (i : ℕ) → length row ≤ i → length all ≤ i → take i row ≡ take i all → row ≡ all
  fill_end row all i h k e = sym (take_all i row h) ∙ e ∙ take_all i all k

-- the flags behind the last partition, cleared in order
pub flag_step : (row flags : List Bool) (n i : ℕ) → n ≤ i → i < length row → take i row ≡ take n flags ++ replicate (i - n) false
    → take (i + 1) (set row i false) ≡ take n flags ++ replicate (i + 1 - n) false
flag_step row flags n i low h e =
    let k : i + 1 - n ≡ i - n + 1 = omega arith in
    rw (k, ← replicate-append-replicate (i - n) 1 false, add-one i, take-suc-set row i false h, e)
    (append_assoc (take n flags) (replicate (i - n) false) (false ∷ []))

pub flag_start : (flags : List Bool) (n : ℕ) → take n flags ≡ take n flags ++ replicate (n - n) false
flag_start flags n = let e : n - n ≡ 0 = omega arith in rw (e, append-nil (take n flags))

pub flag_end : (row flags : List Bool) (n i : ℕ) → length row ≤ i → take i row ≡ take n flags ++ replicate (i - n) false
    → row ≡ take n flags ++ replicate (i - n) false
flag_end row flags n i h e = sym (take_all i row h) ∙ e

-- ---- the permission table

module _ (s : Setup) (d16 : length s.dsegs ≡ 16) (m16 : length s.msegs ≡ 16) where
  pub table-length : length (permission_table s) ≡ 32
  unfolding permission_table
  table-length =
      rw (
        length-append (map (λ (d : Segment). d.permissions) s.dsegs) (map (λ (m : Segment). m.permissions) s.msegs),
        length-map s.dsegs (λ (d : Segment). d.permissions),
        length-map s.msegs (λ (m : Segment). m.permissions),
        d16,
        m16,
      )

  pub row-dseg : (i : ℕ) (d : Segment) → i < 16 → (get_or s.dsegs i d).permissions ≡ get_or (permission_table s) i (replicate 8 0)
  unfolding permission_table
  row-dseg i d h =
      let k : i < length s.dsegs = omega arith in
      let f : i < length (map (λ (d : Segment). d.permissions) s.dsegs) = omega (arith, length-map s.dsegs (λ (d : Segment). d.permissions)) in
      rw (
        get_or-append (map (λ (d : Segment). d.permissions) s.dsegs) (map (λ (m : Segment). m.permissions) s.msegs) (replicate 8 0) i f,
        get_or_any s.dsegs i d no_segment k,
      )
      (sym (get_or-map (λ (d : Segment). d.permissions) s.dsegs i no_segment))

  pub row-mseg : (i : ℕ) (d : Segment) → 16 ≤ i → i < 32 → (get_or s.msegs (i - 16) d).permissions ≡ get_or (permission_table s) i (replicate 8 0)
  unfolding permission_table
  row-mseg i d low h =
      let k : i - 16 < length s.msegs = omega arith in
      let f : length (map (λ (d : Segment). d.permissions) s.dsegs) + (i - 16) ≡ i = omega (arith, length-map s.dsegs (λ (d : Segment). d.permissions)) in
      let g = get_or-append-add (map (λ (d : Segment). d.permissions) s.dsegs) (map (λ (m : Segment). m.permissions) s.msegs) (i - 16) (replicate 8 0) in
      rw (get_or_any s.msegs (i - 16) d no_segment k)
      (sym (get_or-map (λ (d : Segment). d.permissions) s.msegs (i - 16) no_segment) ∙ sym (rw f at g))

  pub row-behind : (i : ℕ) → 32 ≤ i → replicate 8 0 ≡ get_or (permission_table s) i (replicate 8 0)
  row-behind i h =
      let k : length (permission_table s) ≤ i = omega (arith, table-length) in
      sym (get_or-eq_default (permission_table s) (replicate 8 0) k)

-- ---- paths looked for one by one

module _ (text path : List ℕ) (found : Bool) (i : ℕ) where
  pub code_step : (ps : List Span) (d : Span) → i < length ps
      → (found || among text path (drop i ps)) ≡ ((found || same_bytes (bytes_of text (get_or ps i d)) path) || among text path (drop (i + 1) ps))
  unfolding among
  code_step ps d h = rw (add-one, drop-cons ps i d h, or_assoc)

  pub code_end : (ps : List Span) → length ps ≤ i → (found || among text path (drop i ps)) ≡ found
  unfolding among
  code_end ps h = rw (drop_of_length-le ps h, or-false)

  pub dseg-step : (ds : List Segment) (d : Segment) → i < length ds
      → (found || among text path (paths_of (drop i ds)))
      ≡ ((found || same_bytes (bytes_of text (get_or ds i d).path) path) || among text path (paths_of (drop (i + 1) ds)))
  unfolding among paths_of
  dseg-step ds d h = rw (add-one, drop-cons ds i d h, or_assoc)

  pub dseg_end : (ds : List Segment) → length ds ≤ i → (found || among text path (paths_of (drop i ds))) ≡ found
  unfolding among paths_of
  dseg_end ds h = rw (drop_of_length-le ds h, or-false)

-- ---- permissions in a number

four : (k : ℕ) → 2 ^ (2 * k) ≡ 4 ^ k
four zero = refl
four (suc k) =
    let e : 2 * suc k ≡ suc (suc (2 * k)) = omega arith in
    rw (e, pow-suc 2 (suc (2 * k)), pow-suc 2 (2 * k), pow-suc 4 k, four k) (omega arith)

module _ (count bits p : ℕ) where
  pub no_permission : count ≤ p → 0 ≡ permission_of count bits p
  unfolding permission_of
  no_permission h = rw (le-ltb p count h)

  pub permission_far : p < count → 16 ≤ count - 1 - p → bits < 2 ^ 32 → 0 ≡ permission_of count bits p
  unfolding permission_of
  permission_far h far b =
      let low : 4 ^ 16 ≤ 4 ^ (count - 1 - p) = pow-le-pow_right (omega arith) far in
      let small : bits < 4 ^ (count - 1 - p) = lt_of_lt_of_le b low in
      rw (lt-ltb p count h, div-eq_of_lt small)

  pub permission-near : p < count → bits / 2 ^ (2 * (count - 1 - p)) % 4 ≡ permission_of count bits p
  unfolding permission_of
  permission-near h = rw (lt-ltb p count h, four (count - 1 - p))

-- ---- the library's words for a search

range_more : (a n : ℕ) → range_with_len a (suc n) ≡ range_with_len a n ++ ((a + n) ∷ [])
range_more a zero = let e : a ≡ a + 0 = omega arith in ap {B = List ℕ} (λ (b : ℕ). b ∷ []) e
range_more a (suc n) =
    let e : a + 1 + n ≡ a + suc n = omega arith in
    ap (λ (l : List ℕ). a ∷ l) (range_more (a + 1) n ∙ ap {B = List ℕ} (λ (b : ℕ). range_with_len (a + 1) n ++ (b ∷ [])) e)

-- of the n + 1 first numbers one passes the test: n does, or one below it
any_more : (test : ℕ → Bool) (n : ℕ) → list_any test (range_with_len 0 (suc n)) ≡ (test n || list_any test (range_with_len 0 n))
any_more test n =
    ap (list_any test) (range_more 0 n)
    ∙ list_any-append test (range_with_len 0 n) ((0 + n) ∷ [])
    ∙ rw (or-false, zero-add) (or_comm (list_any test (range_with_len 0 n)) (test n))

pub writes_any : (s : Setup) (count bits n : ℕ)
    → list_any (λ p. is_active s p && eqb (permission_of count bits p) 2) (range_with_len 0 n) ≡ some_writes n s count bits
unfolding some_writes
writes_any s count bits zero = refl
writes_any s count bits (suc n) = rw (any_more (λ p. is_active s p && eqb (permission_of count bits p) 2) n, writes_any s count bits n)

pub missing_any : (s : Setup) (n : ℕ) → list_any (λ p. is_active s p && not (has_code s p)) (range_with_len 0 n) ≡ code_missing n s
unfolding code_missing
missing_any s zero = refl
missing_any s (suc n) = rw (any_more (λ p. is_active s p && not (has_code s p)) n, missing_any s n)

active_more : (active : List Bool) (n : ℕ) → list_any (λ flag. flag) (take (suc n) active) ≡ (get_or active n false || list_any (λ flag. flag) (take n active))
active_more active n = go (dec_le (length active) n)
  where
    go : Dec (length active ≤ n) → list_any (λ flag. flag) (take (suc n) active) ≡ (get_or active n false || list_any (λ flag. flag) (take n active))
    go (yes h) = rw (get_or-eq_default active false h, take_all (suc n) active (omega arith), take_all n active h)
    go (no h) = rw (← add-one n, list_any_more (λ flag. flag) active n false (omega arith)) (or_comm (list_any (λ flag. flag) (take n active)) (get_or active n false))

pub active_any : (active : List Bool) (n : ℕ) → list_any (λ flag. flag) (take n active) ≡ some_active n active
unfolding some_active
active_any active zero = refl
active_any active (suc n) = rw (active_more active n, active_any active n)

module _ (text path : List ℕ) where
  pub codes_any : (ps : List Span) → list_any (λ p. same_bytes (bytes_of text p) path) ps ≡ among text path ps
  unfolding among
  codes_any [] = refl
  codes_any (p ∷ ps) = rw (codes_any ps)

  pub dsegs_any : (ds : List Segment) → list_any (λ (d : Segment). same_bytes (bytes_of text d.path) path) ds ≡ among text path (paths_of ds)
  unfolding among paths_of
  dsegs_any [] = refl
  dsegs_any (d ∷ ds) = rw (dsegs_any ds)
