-- What a reader knows who got a record, and where record i stands.
use Rattle.std.specs.Prelude.{List, [], ◌∷◌, ◌++◌, ◌≡◌, refl, drop, get_or, ℕ, zero, suc, ◌+◌, ◌-◌, ◌≤◌, ◌<◌, min, length, Option, Some, None}
use Rattle.std.proofs.Common.{append_assoc, append-nil, sym, ap, ◌∙◌, zero-add, suc-ne-zero, length-take, length-drop, drop-drop, arith, length-append}
use Rattle.std.proofs.Math.Seq.{drop-length}
use Rattle.octets.specs.Lists.{part, on_part, on_nth, KeepsLength}
use Rattle.octets.specs.PartLaws.{part_def, part_all, take_min, drop_min, length-part_in}
use Rattle.octets.specs.OnPartLaws.{on_part_def, on_part-id}
use Rattle.rows.specs.declared.Cursor.{Cursor}
use Rattle.octets.specs.declared.span.Span.{Span}
use Rattle.octets.specs.Spans.{span, bytes_of}
use Rattle.rows.specs.declared.Step.TheVariants as step
use Rattle.rows.specs.Records.{size, chunks, join}
use Rattle.rows.specs.WalkLaws.{six_size, chunks-none, join-chunks}
use Rattle.rows.specs.LikeLaws.{chunks-first}
use Rattle.rows.specs.ChangeLaws.{on_part-left, on_part-right}
use Rattle.rows.specs.Steps.{step_at}
use Rattle.rows.specs.StepLaws.{step-passed, step-stopped, step-ended}
use Rattle.passwords.specs.declared.walk.Reading.{Reading}
use Rattle.passwords.specs.Walk.{reading_of, place_behind, count_behind, span_from, span_of}

-- two numbers that are not the same, as `cc` tells two variants apart
pub clash : {P : Type 0} → ◌≡◌ {A = ℕ} 0 1 → P
clash e = absurd (omega arith)

-- ---- the first record from a place on

pub record First (file : List ℕ) (at : ℕ) (c : List ℕ) (cs : List (List ℕ)) : Type 0 where
  pub is_part : c ≡ part at (length c) file
  pub goes_on : chunks (drop (at + length c) file) ≡ cs
  pub some : 0 < length c
  pub inside : at + length c ≤ length file

some_bytes : (l : List ℕ) (c : List ℕ) (cs : List (List ℕ)) → chunks l ≡ c ∷ cs → 0 < length l
some_bytes [] c cs e = clash (cc (chunks-none))
some_bytes (b ∷ l) c cs e = omega arith

pub first-at : (file : List ℕ) (at : ℕ) (c : List ℕ) (cs : List (List ℕ)) → chunks (drop at file) ≡ c ∷ cs → First file at c cs
first-at file at c cs e =
    let l = drop at file in
    let first = chunks-first (drop at file) c cs e in
    let long : length c ≡ min (size (drop at file)) (length (drop at file)) = ap length first.0 ∙ length-take (size (drop at file)) (drop at file) in
    let bytes = some_bytes (drop at file) c cs e in
    let six = six_size (drop at file) in
    let rest = length-drop at file in
    record {
      is_part = first.0 ∙ rw (part_def at (length c) file, long) (sym (take_min (size l) l));
      goes_on = rw (← drop-drop (length c) at file, long, drop_min (size l) l) (sym first.1);
      some = omega arith;
      inside = omega arith;
    }

-- ---- what was read

-- at a place, `count` records having been read before, this one was read, and the next stands behind it
pub record Taken (file : List ℕ) (at count : ℕ) (r : Reading) (behind raised : ℕ) : Type 0 where
  pub walk : chunks (drop at file) ≡ bytes_of file r.span ∷ chunks (drop behind file)
  pub numbered : r.number ≡ count
  pub stands : r.span.place ≡ at
  pub long : length (bytes_of file r.span) ≡ r.span.length
  pub on : behind ≡ at + length (bytes_of file r.span)
  pub some : at < behind
  pub inside : behind ≤ length file
  pub one_more : raised ≡ count + 1

taken_here : (file : List ℕ) (at count : ℕ) (c : List ℕ) (cs : List (List ℕ)) → chunks (drop at file) ≡ c ∷ cs
    → Taken file at count (record { number = count; span = span at (length c) }) (at + length c) (count + 1)
unfolding bytes_of
taken_here file at count c cs e =
    let f = first-at file at c cs e in
    let some = f.some in
    let same : part at (length c) file ≡ c = sym f.is_part in
    record {
      walk = rw (same, f.goes_on) e;
      numbered = refl;
      stands = refl;
      long = rw same;
      on = rw same;
      some = omega arith;
      inside = f.inside;
      one_more = refl;
    }

pub taken : (file : List ℕ) (at count : ℕ) (r : Reading) (found : Option Reading) (behind raised : ℕ)
    → found ≡ reading_of count at (chunks (drop at file)) → found ≡ Some r → behind ≡ place_behind at found → raised ≡ count_behind count found
    → Taken file at count r behind raised
unfolding reading_of place_behind count_behind
taken file at count r found behind raised f s b n = go (chunks (drop at file)) refl
  where
    go : (cs : List (List ℕ)) → chunks (drop at file) ≡ cs → Taken file at count r behind raised
    go [] e = let z : ◌≡◌ {A = Option Reading} None (Some r) = sym (rw e at f) ∙ s in clash (cc)
    go (c ∷ cs) e =
        let z : Some (record { number = count; span = span at (length c) }) ≡ Some r = sym (rw e at f) ∙ s in
        let er : r ≡ record { number = count; span = span at (length c) } = cc in
        let there : behind ≡ at + length c = rw (s, er) at b in
        let more : raised ≡ count + 1 = rw s at n in
        rw (er, there, more) (taken_here file at count c cs e)

pub ended : (file : List ℕ) (at count : ℕ) (found : Option Reading) (behind raised : ℕ)
    → found ≡ reading_of count at (chunks (drop at file)) → found ≡ None → behind ≡ place_behind at found → raised ≡ count_behind count found
    → (chunks (drop at file) ≡ []) × (behind ≡ at) × (raised ≡ count)
unfolding reading_of place_behind count_behind
ended file at count found behind raised f s b n = (go (chunks (drop at file)) refl, rw s at b, rw s at n)
  where
    go : (cs : List (List ℕ)) → chunks (drop at file) ≡ cs → chunks (drop at file) ≡ []
    go [] e = e
    go (c ∷ cs) e = let z : ◌≡◌ {A = Option Reading} (Some (record { number = count; span = span at (length c) })) None = sym (rw e at f) ∙ s in clash (cc)

-- ---- from the step of a row

pub reading-passed : (file : List ℕ) (at count k : ℕ) (payload : Span) (next : Cursor) → step_at file at ≡ step.Record k payload next
    → (reading_of count at (chunks (drop at file)) ≡ Some (record { number = count; span = span at (next.at - at) })) × (at < next.at) × (next.at ≤ length file)
unfolding reading_of
reading-passed file at count k payload next e =
    let n = payload.length in
    let p = step-passed file at k payload next e in
    let goes_on = p.goes_on in
    let inside = p.inside in
    let long : length (part at (6 + n) file) ≡ 6 + n = length-part_in at (6 + n) file (omega arith) in
    let same : next.at - at ≡ 6 + n = omega arith in
    (rw (p.walk, long, same), omega arith, omega arith)

pub reading-stopped : (file : List ℕ) (at count : ℕ) → step_at file at ≡ step.Cut
    → (reading_of count at (chunks (drop at file)) ≡ Some (record { number = count; span = span at (length file - at) })) × (at < length file)
unfolding reading_of
reading-stopped file at count e =
    let s = (step-stopped file at e).0 in
    let f = first-at file at (drop at file) [] s in
    let some = f.some in
    let inside = f.inside in
    (rw (s, length-drop at file), omega arith)

pub reading-ended : (file : List ℕ) (at count : ℕ) → step_at file at ≡ step.End → reading_of count at (chunks (drop at file)) ≡ None
unfolding reading_of
reading-ended file at count e = rw (step-ended file at e)

-- ---- where record i stands

pub span_none : (file : List ℕ) (at i : ℕ) → chunks (drop at file) ≡ [] → span_from at i (chunks (drop at file)) ≡ span at 0
unfolding span_from
span_none file at i e = rw e

pub span_here : (file : List ℕ) (at count : ℕ) (r : Reading) (behind raised : ℕ) → Taken file at count r behind raised
    → span_from at 0 (chunks (drop at file)) ≡ r.span
unfolding span_from
span_here file at count r behind raised t = rw (t.walk, t.long, ← t.stands)

span-next : (at i : ℕ) (c : List ℕ) (cs : List (List ℕ)) → span_from at (suc i) (c ∷ cs) ≡ span_from (at + length c) i cs
unfolding span_from
span-next at i c cs = refl

pub span-on : (file : List ℕ) (at count : ℕ) (r : Reading) (behind raised i : ℕ) → Taken file at count r behind raised
    → span_from at (suc i) (chunks (drop at file)) ≡ span_from behind i (chunks (drop behind file))
span-on file at count r behind raised i t =
    ap (λ (cs : List (List ℕ)). span_from at (suc i) cs) t.walk
    ∙ span-next at i (bytes_of file r.span) (chunks (drop behind file))
    ∙ ap (λ (m : ℕ). span_from m i (chunks (drop behind file))) (sym t.on)

pub span-part : (file : List ℕ) (at i : ℕ) (cs : List (List ℕ)) → chunks (drop at file) ≡ cs
    → get_or cs i [] ≡ bytes_of file (span_from at i cs)
unfolding span_from bytes_of part
span-part file at i [] e = refl
span-part file at zero (c ∷ cs) e = (first-at file at c cs e).is_part
span-part file at (suc i) (c ∷ cs) e = span-part file (at + length c) i cs (first-at file at c cs e).goes_on

pub span-inside : (file : List ℕ) (at i : ℕ) (cs : List (List ℕ)) → chunks (drop at file) ≡ cs → at ≤ length file
    → (span_from at i cs).place + (span_from at i cs).length ≤ length file
unfolding span_from
span-inside file at i [] e h = omega arith
span-inside file at zero (c ∷ cs) e h = (first-at file at c cs e).inside
span-inside file at (suc i) (c ∷ cs) e h =
    let f = first-at file at c cs e in
    span-inside file (at + length c) i cs f.goes_on f.inside

pub span_fits : (i : ℕ) (file : List ℕ) → (span_of i file).place + (span_of i file).length ≤ length file
unfolding span_of
span_fits i file = span-inside file 0 i (chunks file) refl (omega arith)

-- ---- record i changed

module _ (g : List ℕ → List ℕ) (keeps : KeepsLength g) where
  nothing : (l : List ℕ) → length l ≡ 0 → l ≡ []
  nothing [] e = refl
  nothing (x ∷ l) e = absurd (suc-ne-zero (length l) e)

  whole_change : (c : List ℕ) → on_part 0 (length c) g c ≡ g c
  whole_change c = rw (on_part_def 0 (length c) g c, part_all, zero-add, drop-length) (append-nil (g c))

  span_change_from : (p : List ℕ) (at i : ℕ) (cs : List (List ℕ)) → length p ≡ at
      → on_part (span_from at i cs).place (span_from at i cs).length g (p ++ join cs) ≡ p ++ join (on_nth i g cs)
  unfolding span_from on_nth join part
  span_change_from p at i [] e = on_part-id at 0 g (p ++ []) (nothing (g []) (keeps []))
  span_change_from p at zero (c ∷ cs) e =
      let here : at ≡ length p + 0 = omega arith in
      rw (here, on_part-right 0 (length c) g p (c ++ join cs), on_part-left 0 (length c) g c (join cs) (omega arith), whole_change c)
  span_change_from p at (suc i) (c ∷ cs) e =
      let there : length (p ++ c) ≡ at + length c = rw length-append (omega arith) in
      rw (append_assoc p c (join cs), append_assoc p c (join (on_nth i g cs))) at (span_change_from (p ++ c) (at + length c) i cs there)

  -- a change of record i is a change of the part where it stands
  pub span_change : (i : ℕ) (file : List ℕ) → on_part (span_of i file).place (span_of i file).length g file ≡ join (on_nth i g (chunks file))
  unfolding span_of
  span_change i file = rw (join-chunks file) at (span_change_from [] 0 i (chunks file) refl)
