-- `devices::keyboard::Keyboard::take` meets its contract: what is left, laid over zeros, is what is left with zeros behind. Assumes nothing.
use Rattle.std.proofs.Common.{List, ◌++◌, ◌≡◌, ℕ, ◌-◌, ◌≤◌, min, arith, length, take, drop, replicate, length-drop, length-take-le, take_all, take-take, rules}
use Rattle.octets.specs.Lists.{over}
use Rattle.octets.specs.WriteLaws.{over-split}
use Rattle.devices.specs.Queue.{held, queue, takes, queue_drop, took, take_out, queue_take}
use Rattle.devices.specs.QueueLaws.{drop-zeros}
use Rattle.devices.specs.declared.keyboard.Keyboard.{Keyboard}
use Rattle.devices.proofs.keyboard.Keyboard.take.Goals as goal

-- the first n of a row, laid over another that has room for them
over-first : (n : ℕ) (keys buffer : List ℕ) → n ≤ length keys → n ≤ length buffer → over (take n keys) buffer ≡ take n keys ++ drop n buffer
over-first n keys buffer h k =
    let size : length (take n keys) ≡ n = length-take-le n keys h in
    let room : length (take n keys) ≤ length buffer = rw size k in
    rw (over-split, take_all (length buffer) (take n keys) room, size)

-- what the code makes of its parts
out : (request : ℕ) (k : Keyboard) (buffer front rest : List ℕ) (h n : ℕ) → length k.keys ≡ 64 → h ≡ min k.held 64 → n ≡ min (min request (length buffer)) h
    → front ≡ take n k.keys → rest ≡ take (length k.keys - n) (drop n k.keys)
    → took (record { count = n; keyboard = record { keys = rest ++ drop (64 - n) (replicate 64 0); held = h - n } }) (front ++ drop n buffer) ≡ queue_take request k buffer
unfolding queue_take take_out queue_drop takes held queue
out request k buffer front rest h n e p q r s =
    let m : ℕ = min (min request (length buffer)) (min k.held 64) in
    let left : 64 - (64 - n) ≡ n = omega arith in
    let fewer : m ≤ min k.held 64 = omega arith in
    let there : m ≤ length k.keys = omega arith in
    let room : m ≤ length buffer = omega arith in
    let size : length (drop n k.keys) ≤ length k.keys - n = rw length-drop (omega arith) in
    rw (drop-zeros, left, r, s, take_all (length k.keys - n) (drop n k.keys) size, q, p, take-take m (min k.held 64) k.keys fewer, over-first m k.keys buffer there room)

pub returns : goal.returns
returns c = let args = c.args in
    let size : length args.self.keys ≡ 64 = search rules in
    out args.request args.self args.buffer.now c.copy_from_slice.new.self c.copy_from_slice-2.new.self c.min-held.result c.min-count.result size
    c.min-held.ensures (rw c.min.ensures at c.min-count.ensures) c.copy_from_slice.ensures.after c.copy_from_slice-2.ensures.after
