-- FIPS 180-4, section 6.2: the digest of a message, a row of bytes of any length.
use Rattle.std.specs.Prelude.{ℕ, zero, suc, List, ◌++◌}
use Rattle.sha256.specs.Words.{bytes_of}
use Rattle.sha256.specs.Constants.{H0}
use Rattle.sha256.specs.Padding.{padded, blocks, block}
use Rattle.sha256.specs.Compression.{compress, a, b, c, d, e, f, g, h}

-- 6.2.2: the hash value after the first i blocks of a padded message
unfoldable pub hash : ℕ → List ℕ → List ℕ
hash zero p = H0
hash (suc i) p = compress (hash i p) (block i p)

-- 6.2.2, the end: the eight words one behind the other, thirty-two bytes
unfoldable pub joined : List ℕ → List ℕ
joined H =
    bytes_of (a H) ++ (bytes_of (b H) ++ (bytes_of (c H) ++ (bytes_of (d H) ++
    (bytes_of (e H) ++ (bytes_of (f H) ++ (bytes_of (g H) ++ bytes_of (h H)))))))

unfoldable pub digest : List ℕ → List ℕ
digest m = joined (hash (blocks m) (padded m))
