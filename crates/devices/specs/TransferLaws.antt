-- Laws of random read and write: what moves, and that a read after a write gives back what was written.
use Rattle.std.specs.Prelude.{List, ◌≡◌, refl, ℕ, zero, suc, ◌+◌, ◌-◌, ◌≤◌, min, length, take}
use Rattle.std.proofs.Common.{sym, ◌∙◌, arith, length-take-le}
use Rattle.std.proofs.Math.Seq.{take-length}
use Rattle.octets.specs.Lists.{part, over, write_at}
use Rattle.octets.specs.WriteLaws.{length_over, length-write_at, over-same, part-write_at-same}
use Rattle.devices.specs.Screen.{moved, random_read, read_out, random_write, write_out}

-- "min(request, 2,000 − offset)": where the lent part has room for the request
pub moved-room : (size offset request room : ℕ) → request ≤ room → moved size offset request room ≡ min request (size - offset)
unfolding moved
moved-room size offset request room h = omega arith

-- neither changes a length
pub length-read : (offset request : ℕ) (cells buffer : List ℕ) → length (random_read offset request cells buffer).after ≡ length buffer
unfolding random_read read_out
length-read offset request cells buffer = length_over _ buffer

pub length-write : (offset request : ℕ) (bytes cells : List ℕ) → length (random_write offset request bytes cells).after ≡ length cells
unfolding random_write write_out
length-write offset request bytes cells = length-write_at offset _ cells

-- as many cells come back as were written, into a part of the same length
pub read_count : (offset request : ℕ) (bytes cells buffer : List ℕ) → length buffer ≡ length bytes
    → (random_read offset request (random_write offset request bytes cells).after buffer).count ≡ (random_write offset request bytes cells).count
unfolding random_read read_out random_write write_out
read_count offset request bytes cells buffer e = rw (length-write_at, e)

-- what was written is there
pub written : (offset n : ℕ) (bytes cells : List ℕ) → n ≤ length bytes → n ≤ length cells - offset → part offset n (write_at offset (take n bytes) cells) ≡ take n bytes
unfolding part
written offset zero bytes cells h l = refl
written offset (suc m) bytes cells h l =
    let size : length (take (suc m) bytes) ≡ suc m = length-take-le (suc m) bytes h in
    let inside : offset + length (take (suc m) bytes) ≤ length cells = rw size (omega arith) in
    rw size at (part-write_at-same offset (take (suc m) bytes) cells inside)

-- and they are what was written
pub read-written : (offset request : ℕ) (bytes cells buffer : List ℕ) → length buffer ≡ length bytes
    → (random_read offset request (random_write offset request bytes cells).after buffer).after ≡ over (take (random_write offset request bytes cells).count bytes) buffer
unfolding random_read read_out random_write write_out moved
read-written offset request bytes cells buffer e =
    let n = moved (length cells) offset request (length bytes) in
    let fits : n ≤ length bytes = omega arith in
    let there : n ≤ length cells - offset = omega arith in
    rw (length-write_at, e, written offset n bytes cells fits there)

write_all : (offset request : ℕ) (bytes cells : List ℕ) → length bytes ≡ request → offset + request ≤ length cells → (random_write offset request bytes cells).count ≡ length bytes
unfolding random_write write_out moved
write_all offset request bytes cells e h = omega arith

-- so a part that is lent back for the request, with all of it on the screen, comes back as it was
pub read_back : (offset request : ℕ) (bytes cells buffer : List ℕ) → length bytes ≡ request → length buffer ≡ request → offset + request ≤ length cells
    → (random_read offset request (random_write offset request bytes cells).after buffer).after ≡ bytes
read_back offset request bytes cells buffer e f h =
    let count : (random_write offset request bytes cells).count ≡ length bytes = write_all offset request bytes cells e h in
    rw (read-written offset request bytes cells buffer (f ∙ sym e), count, take-length) (over-same bytes buffer (e ∙ sym f))
