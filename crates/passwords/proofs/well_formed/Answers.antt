use Rattle.std.proofs.Common.{◌≡◌, [], sym, ◌∙◌, arith, drop}
use Rattle.rows.specs.Records.{chunks}
use Rattle.passwords.specs.WalkLaws.{Taken, taken, ended}
use Rattle.passwords.specs.FileLaws.{few_none, few_full, few_fails, few_on, good, well_formed_few, good_disobeys, good_again, good_new, rest_part}
use Rattle.passwords.proofs.well_formed.Goals as goal
use Rattle.passwords.proofs.well_formed.Goals.{In-Some, In_default}

-- what is known once a record was read
took : (c : In-Some)
    → Taken c.args.file.now c.loop-reading.records.at c.loop-reading.records.count c.in-Some.reading c.next.new.self.at c.next.new.self.count
took c = rw c.loop-reading.invariant.0 at (taken _ _ _ _ _ _ _ c.next.ensures.found c.in-Some.is c.next.ensures.at c.next.ensures.count)

-- and once there was none
past : (c : In_default)
    → (chunks (drop c.loop-reading.records.at c.args.file.now) ≡ []) × (c.next.new.self.at ≡ c.loop-reading.records.at) × (c.next.new.self.count ≡ c.loop-reading.records.count)
past c = rw c.loop-reading.invariant.0 at (ended _ _ _ _ _ _ c.next.ensures.found c.in_default.is c.next.ensures.at c.next.ensures.count)

pub loop-reading-init : goal.loop-reading-init
loop-reading-init c = let new = c.new-records.ensures in
    (new.file, omega arith, omega arith, rw (new.at, new.count) (well_formed_few c.args.file.now))

pub returns : goal.returns
returns c = sym (c.loop-reading.invariant.3 ∙ few_none good c.loop-reading.records.count c.loop-reading.records.at c.args.file.now (past c).0)

pub returns-then-reading-ge-MOST_RECORDS : goal.returns-then-reading-ge-MOST_RECORDS
returns-then-reading-ge-MOST_RECORDS c =
    let t = took (goal.at.returns-then-reading-ge-MOST_RECORDS c).In-Some in
    sym (c.loop-reading.invariant.3 ∙ few_full good _ _ _ _ _ _ t c.if-reading-ge-MOST_RECORDS.true)

pub returns-then-not-obeys : goal.returns-then-not-obeys
returns-then-not-obeys c =
    let t = took (goal.at.returns-then-not-obeys c).In-Some in
    let bad = rw c.of-entry.ensures at (sym c.obeys.ensures ∙ c.if-not-obeys.true) in
    sym (c.loop-reading.invariant.3 ∙ few_fails good _ _ _ _ _ _ t c.if-reading-ge-MOST_RECORDS.false (good_disobeys _ _ bad))

pub returns-then-named : goal.returns-then-named
returns-then-named c =
    let t = took (goal.at.returns-then-named c).In-Some in
    let entry = c.of-entry.ensures in
    let obeyed = rw entry at (sym c.obeys.ensures ∙ c.if-not-obeys.false) in
    let again = rw (c.name.ensures, entry, c.piece-rest.ensures, rest_part) at (sym c.named.ensures ∙ c.if-named.true) in
    sym (c.loop-reading.invariant.3 ∙ few_fails good _ _ _ _ _ _ t c.if-reading-ge-MOST_RECORDS.false (good_again _ _ obeyed again))

pub loop-reading-smaller : goal.loop-reading-smaller
loop-reading-smaller c =
    let t = took (goal.at.loop-reading-smaller c).In-Some in
    let some = t.some in
    let inside = t.inside in
    omega arith

pub loop-reading-preserved : goal.loop-reading-preserved
loop-reading-preserved c =
    let t = took (goal.at.loop-reading-preserved c).In-Some in
    let some = t.some in
    let inside = t.inside in
    let more = t.one_more in
    let entry = c.of-entry.ensures in
    let obeyed = rw entry at (sym c.obeys.ensures ∙ c.if-not-obeys.false) in
    let again = rw (c.name.ensures, entry, c.piece-rest.ensures, rest_part) at (sym c.named.ensures ∙ c.if-named.false) in
    let on = few_on good _ _ _ _ _ _ t c.if-reading-ge-MOST_RECORDS.false (good_new _ _ obeyed again) in
    (c.next.ensures.file ∙ c.loop-reading.invariant.0, omega arith, omega arith, c.loop-reading.invariant.3 ∙ on)
