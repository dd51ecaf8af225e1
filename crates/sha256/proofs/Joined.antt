-- Eight words of four bytes each, written out, are FIPS 180-4's digest of the hash value.
use Rattle.std.proofs.Common.{◌≡◌, ℕ, List, [], ◌∷◌, get_or}
use Rattle.sha256.specs.Words.{bytes_of}
use Rattle.sha256.specs.Digest.{joined}

pub written_out : (v a b c d e f g h : List ℕ)
    → a ≡ bytes_of (get_or v 0 0) → b ≡ bytes_of (get_or v 1 0) → c ≡ bytes_of (get_or v 2 0) → d ≡ bytes_of (get_or v 3 0)
    → e ≡ bytes_of (get_or v 4 0) → f ≡ bytes_of (get_or v 5 0) → g ≡ bytes_of (get_or v 6 0) → h ≡ bytes_of (get_or v 7 0)
    → get_or a 0 0 ∷ get_or a 1 0 ∷ get_or a 2 0 ∷ get_or a 3 0 ∷ get_or b 0 0 ∷ get_or b 1 0 ∷ get_or b 2 0 ∷ get_or b 3 0
    ∷ get_or c 0 0 ∷ get_or c 1 0 ∷ get_or c 2 0 ∷ get_or c 3 0 ∷ get_or d 0 0 ∷ get_or d 1 0 ∷ get_or d 2 0 ∷ get_or d 3 0
    ∷ get_or e 0 0 ∷ get_or e 1 0 ∷ get_or e 2 0 ∷ get_or e 3 0 ∷ get_or f 0 0 ∷ get_or f 1 0 ∷ get_or f 2 0 ∷ get_or f 3 0
    ∷ get_or g 0 0 ∷ get_or g 1 0 ∷ get_or g 2 0 ∷ get_or g 3 0 ∷ get_or h 0 0 ∷ get_or h 1 0 ∷ get_or h 2 0 ∷ get_or h 3 0 ∷ []
    ≡ joined v
unfolding joined bytes_of
written_out v a b c d e f g h pa pb pc pd pe pf pg ph = rw (pa, pb, pc, pd, pe, pf, pg, ph)
