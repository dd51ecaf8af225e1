use Rattle.std.proofs.Common.{◌≡◌, [], sym, ◌∙◌, arith, refl, drop}
use Rattle.rows.specs.Records.{chunks}
use Rattle.passwords.specs.WalkLaws.{Taken, taken, ended}
use Rattle.passwords.specs.PasswordFile.{find}
use Rattle.passwords.specs.FileLaws.{find_none, find_here, find-on}
use Rattle.passwords.proofs.find.Goals as goal
use Rattle.passwords.proofs.find.Goals.{In-Some, In_default}

-- what is known once a record was read
took : (c : In-Some)
    → Taken c.args.file.now c.loop-reading.records.at c.loop-reading.records.count c.in-Some.reading c.next.new.self.at c.next.new.self.count
took c = rw c.loop-reading.invariant.0 at (taken _ _ _ _ _ _ _ c.next.ensures.found c.in-Some.is c.next.ensures.at c.next.ensures.count)

-- and once there was none
past : (c : In_default)
    → (chunks (drop c.loop-reading.records.at c.args.file.now) ≡ []) × (c.next.new.self.at ≡ c.loop-reading.records.at) × (c.next.new.self.count ≡ c.loop-reading.records.count)
past c = rw c.loop-reading.invariant.0 at (ended _ _ _ _ _ _ c.next.ensures.found c.in_default.is c.next.ensures.at c.next.ensures.count)

pub loop-reading-init : goal.loop-reading-init
unfolding find
loop-reading-init c = let new = c.new-records.ensures in
    (new.file, omega arith, omega arith, rw (new.at, new.count) refl)

pub returns : goal.returns
returns c = let p = past c in
    rw p.2 (sym (c.loop-reading.invariant.3 ∙ find_none c.args.name.now c.loop-reading.records.count c.loop-reading.records.at c.args.file.now p.0))

pub overflow_add-entry : goal.overflow_add-entry
overflow_add-entry c =
    let t = took (goal.at.overflow_add-entry c).In-Some in
    let stands = t.stands in
    let some = t.some in
    let inside = t.inside in
    record { fits = omega arith }

pub returns-then-same : goal.returns-then-same
returns-then-same c =
    let same = rw (c.name.ensures, c.of.ensures) at (sym c.same.ensures ∙ c.if-same.true) in
    let t = took (goal.at.returns-then-same c).In-Some in
    sym (c.loop-reading.invariant.3 ∙ find_here _ _ _ _ _ _ _ t same)

pub loop-reading-smaller : goal.loop-reading-smaller
loop-reading-smaller c =
    let t = took (goal.at.loop-reading-smaller c).In-Some in
    let some = t.some in
    let inside = t.inside in
    omega arith

pub loop-reading-preserved : goal.loop-reading-preserved
loop-reading-preserved c =
    let t = took (goal.at.loop-reading-preserved c).In-Some in
    let some = t.some in
    let inside = t.inside in
    let more = t.one_more in
    let same = rw (c.name.ensures, c.of.ensures) at (sym c.same.ensures ∙ c.if-same.false) in
    (c.next.ensures.file ∙ c.loop-reading.invariant.0, omega arith, omega arith, c.loop-reading.invariant.3 ∙ find-on _ _ _ _ _ _ _ t same)
