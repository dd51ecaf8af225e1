use Rattle.std.proofs.Common.{◌≡◌, [], sym, ◌∙◌, suc, ◌-◌, arith, drop}
use Rattle.rows.specs.Records.{chunks}
use Rattle.std.proofs.Math.Nat.{sub-zero}
use Rattle.passwords.specs.WalkLaws.{Taken, taken, ended, span_none, span_here, span-on}
use Rattle.passwords.specs.Walk.{span_of}
use Rattle.passwords.proofs.walk.locate.Goals as goal
use Rattle.passwords.proofs.walk.locate.Goals.{In-Some, In_default}

-- what is known once a record was read
took : (c : In-Some)
    → Taken c.args.file.now c.loop-reading.records.at c.loop-reading.records.count c.in-Some.reading c.next.new.self.at c.next.new.self.count
took c = rw c.loop-reading.invariant.0 at (taken _ _ _ _ _ _ _ c.next.ensures.found c.in-Some.is c.next.ensures.at c.next.ensures.count)

-- and once there was none
past : (c : In_default)
    → (chunks (drop c.loop-reading.records.at c.args.file.now) ≡ []) × (c.next.new.self.at ≡ c.loop-reading.records.at) × (c.next.new.self.count ≡ c.loop-reading.records.count)
past c = rw c.loop-reading.invariant.0 at (ended _ _ _ _ _ _ c.next.ensures.found c.in_default.is c.next.ensures.at c.next.ensures.count)

pub loop-reading-init : goal.loop-reading-init
unfolding span_of
loop-reading-init c = let new = c.new-records.ensures in
    (new.file, omega arith, omega arith, rw (new.at, new.count, sub-zero), omega arith)

pub returns : goal.returns
returns c = let p = past c in
    rw p.1 (sym (c.loop-reading.invariant.3 ∙ span_none c.args.file.now c.loop-reading.records.at (c.args.i - c.loop-reading.records.count) p.0))

pub returns-then-reading-i : goal.returns-then-reading-i
returns-then-reading-i c =
    let t = took (goal.at.returns-then-reading-i c).In-Some in
    let n = t.numbered in
    let z : c.args.i - c.loop-reading.records.count ≡ 0 = omega arith in
    sym (c.loop-reading.invariant.3 ∙ rw z (span_here _ _ _ _ _ _ t))

pub loop-reading-smaller : goal.loop-reading-smaller
loop-reading-smaller c =
    let t = took (goal.at.loop-reading-smaller c).In-Some in
    let some = t.some in
    let inside = t.inside in
    omega arith

pub loop-reading-preserved : goal.loop-reading-preserved
loop-reading-preserved c =
    let t = took (goal.at.loop-reading-preserved c).In-Some in
    let some = t.some in
    let inside = t.inside in
    let more = t.one_more in
    let n = t.numbered in
    let e : c.args.i - c.loop-reading.records.count ≡ suc (c.args.i - c.next.new.self.count) = omega arith in
    (c.next.ensures.file ∙ c.loop-reading.invariant.0, omega arith, omega arith, c.loop-reading.invariant.3 ∙ rw e (span-on _ _ _ _ _ _ _ t), omega arith)
