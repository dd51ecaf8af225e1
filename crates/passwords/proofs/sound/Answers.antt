use Rattle.std.proofs.Common.{◌≡◌, [], sym, ◌∙◌, arith, drop}
use Rattle.rows.specs.Records.{chunks}
use Rattle.passwords.specs.WalkLaws.{Taken, taken, ended}
use Rattle.passwords.specs.FileLaws.{fits, sound_few, few_none, few_full, few_fails, few_on}
use Rattle.passwords.proofs.sound.Goals as goal
use Rattle.passwords.proofs.sound.Goals.{In-Some, In_default}

-- what is known once a record was read
took : (c : In-Some)
    → Taken c.args.file.now c.loop-reading.records.at c.loop-reading.records.count c.in-Some.reading c.next.new.self.at c.next.new.self.count
took c = rw c.loop-reading.invariant.0 at (taken _ _ _ _ _ _ _ c.next.ensures.found c.in-Some.is c.next.ensures.at c.next.ensures.count)

-- and once there was none
past : (c : In_default)
    → (chunks (drop c.loop-reading.records.at c.args.file.now) ≡ []) × (c.next.new.self.at ≡ c.loop-reading.records.at) × (c.next.new.self.count ≡ c.loop-reading.records.count)
past c = rw c.loop-reading.invariant.0 at (ended _ _ _ _ _ _ c.next.ensures.found c.in_default.is c.next.ensures.at c.next.ensures.count)

pub loop-reading-init : goal.loop-reading-init
loop-reading-init c = let new = c.new-records.ensures in
    (new.file, omega arith, omega arith, rw (new.at, new.count) (sound_few c.args.file.now))

pub returns : goal.returns
returns c = sym (c.loop-reading.invariant.3 ∙ few_none fits c.loop-reading.records.count c.loop-reading.records.at c.args.file.now (past c).0)

pub returns-then-reading-ge-MOST_RECORDS : goal.returns-then-reading-ge-MOST_RECORDS
returns-then-reading-ge-MOST_RECORDS c =
    let t = took (goal.at.returns-then-reading-ge-MOST_RECORDS c).In-Some in
    sym (c.loop-reading.invariant.3 ∙ few_full fits _ _ _ _ _ _ t c.if-reading-ge-MOST_RECORDS.true)

pub returns-then-not-shaped : goal.returns-then-not-shaped
returns-then-not-shaped c =
    let t = took (goal.at.returns-then-not-shaped c).In-Some in
    let bad = rw c.of.ensures at (sym c.shaped.ensures ∙ c.if-not-shaped.true) in
    sym (c.loop-reading.invariant.3 ∙ few_fails fits _ _ _ _ _ _ t c.if-reading-ge-MOST_RECORDS.false bad)

pub loop-reading-smaller : goal.loop-reading-smaller
loop-reading-smaller c =
    let t = took (goal.at.loop-reading-smaller c).In-Some in
    let some = t.some in
    let inside = t.inside in
    omega arith

pub loop-reading-preserved : goal.loop-reading-preserved
loop-reading-preserved c =
    let t = took (goal.at.loop-reading-preserved c).In-Some in
    let some = t.some in
    let inside = t.inside in
    let more = t.one_more in
    let fitting = rw c.of.ensures at (sym c.shaped.ensures ∙ c.if-not-shaped.false) in
    let on = few_on fits _ _ _ _ _ _ t c.if-reading-ge-MOST_RECORDS.false fitting in
    (c.next.ensures.file ∙ c.loop-reading.invariant.0, omega arith, omega arith, c.loop-reading.invariant.3 ∙ on)
