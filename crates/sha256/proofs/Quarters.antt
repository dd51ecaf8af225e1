-- The four quarters one after the other are the sixty-four rounds.
use Rattle.std.proofs.Common.{◌≡◌, ℕ, List, length}
use Rattle.sha256.specs.Constants.{K}
use Rattle.sha256.specs.Compression.{schedule, rounds}
use Rattle.sha256.specs.Window.{steps, quarter}
use Rattle.sha256.specs.Laws.{sixteen_at-a_time}

pub by_quarters : (H M : List ℕ) → length M ≡ 16
    → (steps (quarter 3) (steps (quarter 2) (steps (quarter 1) (steps (quarter 0) (record { state = H; window = M }))))).state ≡ rounds 64 (schedule 48 M) H
unfolding steps quarter K
by_quarters H M e = sixteen_at-a_time H M e
