-- Document 01, "Set-up text": the set-up as a value.
use Rattle.std.specs.Prelude.{Bool, false, cond, ◌&&◌, ◌||◌, not, List, [], ◌∷◌, ◌++◌, ℕ, ◌+◌, ◌-◌, ◌/◌, ◌%◌, ◌^◌, min, eqb, ltb, take, get_or, replicate, set}
use Rattle.octets.specs.Spans.{no_span, bytes_of}
use Rattle.octets.specs.Same.{same_bytes}
use Rattle.octets.specs.declared.span.Span.{Span}
use Rattle.setup.specs.declared.Segment.{Segment}
use Rattle.setup.specs.declared.Setup.{Setup}

abbrev pub no_segment : Segment
no_segment = record { path = no_span; size = 0; host = 0; permissions = replicate 8 0 }

-- partitions count and flags as they are given: no more than eight partitions, and no flag behind the last
unfoldable pub begun : ℕ → List Bool → Setup
begun count active =
    record {
      partitions = min count 8;
      active = take (min count 8) active ++ replicate (8 - min count 8) false;
      code = replicate 8 no_span;
      dsegs = replicate 16 no_segment;
      dsegcount = 0;
      msegs = replicate 16 no_segment;
      msegcount = 0;
    }

-- partition p is an active one
unfoldable pub is_active : Setup → ℕ → Bool
is_active s p = ltb p s.partitions && get_or s.active p false

-- partition p has a CODE statement
unfoldable pub has_code : Setup → ℕ → Bool
has_code s p = not (eqb (get_or s.code p no_span).length 0)

-- one of the n first paths of a row is this one
unfoldable pub among : List ℕ → List ℕ → List Span → Bool
among text path [] = false
among text path (p ∷ ps) = same_bytes (bytes_of text p) path || among text path ps

unfoldable pub paths_of : List Segment → List Span
paths_of [] = []
paths_of (d ∷ ds) = d.path ∷ paths_of ds

-- a path "equals an earlier DSEG or CODE path"; what is not there has no bytes and equals none
unfoldable pub path_taken : List ℕ → List ℕ → Setup → Bool
path_taken text path s = among text path s.code || among text path (paths_of s.dsegs)

-- of `count` permissions in one number, two bits for each and the last one lowest, that of partition p
unfoldable pub permission_of : ℕ → ℕ → ℕ → ℕ
permission_of count bits p = cond (ltb p count) (bits / 4 ^ (count - 1 - p) % 4) 0

-- the row of eight
unfoldable pub permission_row : ℕ → ℕ → List ℕ
permission_row count bits =
    permission_of count bits 0 ∷ permission_of count bits 1 ∷ permission_of count bits 2 ∷ permission_of count bits 3 ∷
    permission_of count bits 4 ∷ permission_of count bits 5 ∷ permission_of count bits 6 ∷ permission_of count bits 7 ∷ []

-- one thing more
unfoldable pub with_code : ℕ → Span → Setup → Setup
with_code p path s =
    record {
      partitions = s.partitions;
      active = s.active;
      code = set s.code p path;
      dsegs = s.dsegs;
      dsegcount = s.dsegcount;
      msegs = s.msegs;
      msegcount = s.msegcount;
    }

unfoldable pub with_dseg : Segment → Setup → Setup
with_dseg d s =
    record {
      partitions = s.partitions;
      active = s.active;
      code = s.code;
      dsegs = set s.dsegs s.dsegcount d;
      dsegcount = s.dsegcount + 1;
      msegs = s.msegs;
      msegcount = s.msegcount;
    }

unfoldable pub with_mseg : Segment → Setup → Setup
with_mseg m s =
    record {
      partitions = s.partitions;
      active = s.active;
      code = s.code;
      dsegs = s.dsegs;
      dsegcount = s.dsegcount;
      msegs = set s.msegs s.msegcount m;
      msegcount = s.msegcount + 1;
    }
