-- What the programs over a terminal begin with: the set-up text, the store's image as records, and areas that nobody has written.
use Rattle.std.specs.Prelude.{Bool, true, false, List, [], ◌∷◌, ◌++◌, ℕ, length, replicate}
use lib.Chars.{codes}
use Rattle.octets.specs.Numbers.{spelled}
use Rattle.scene.specs.declared.Areas.{Areas}

-- three partitions, the one in the middle passive; what stands behind the third does not matter
unfoldable pub active : List Bool
active = true ∷ false ∷ replicate 6 true

-- partition 0 may write the dseg and partition 2 the mseg, each may read the other's
unfoldable pub text : List ℕ
text =
    codes "CODE[0] = /desk.out;\n"
    ++ (codes "CODE[2] = /alarm.out;\n"
    ++ (codes "DSEG[0] = { \"/route sheet.txt\", 0, RW, RW, RO };\n"
    ++ codes "MSEG[0] = { 16, 2, RO, NA, RW };\n"))

-- a record: its payload's length, its kind, the payload
abbrev pub record_of : ℕ → List ℕ → List ℕ
record_of kind payload = spelled 4 (length payload) ++ (spelled 2 kind ++ payload)

-- a file of the store: its path's length, the path, the contents
abbrev pub file : List ℕ → List ℕ → List ℕ
file path contents = record_of 1 (length path ∷ (path ++ contents))

-- a user of a password file: the digest, the name
abbrev pub user : List ℕ → List ℕ → List ℕ
user digest name = record_of 2 (digest ++ name)

-- SHA-256 of "first", "second" and "third", as sha256sum prints them
abbrev pub first : List ℕ
first =
    167 ∷ 147 ∷ 123 ∷ 100 ∷ 184 ∷ 202 ∷ 165 ∷ 143 ∷ 3 ∷ 114 ∷ 27 ∷ 182 ∷ 186 ∷ 207 ∷ 92 ∷ 120
    ∷ 203 ∷ 35 ∷ 95 ∷ 235 ∷ 224 ∷ 231 ∷ 11 ∷ 27 ∷ 132 ∷ 205 ∷ 153 ∷ 84 ∷ 20 ∷ 97 ∷ 160 ∷ 142 ∷ []

abbrev pub second : List ℕ
second =
    22 ∷ 54 ∷ 122 ∷ 172 ∷ 182 ∷ 122 ∷ 74 ∷ 1 ∷ 124 ∷ 141 ∷ 168 ∷ 171 ∷ 149 ∷ 104 ∷ 44 ∷ 203
    ∷ 57 ∷ 8 ∷ 99 ∷ 120 ∷ 15 ∷ 113 ∷ 20 ∷ 221 ∷ 160 ∷ 160 ∷ 224 ∷ 197 ∷ 86 ∷ 68 ∷ 199 ∷ 196 ∷ []

abbrev pub third : List ℕ
third =
    177 ∷ 233 ∷ 147 ∷ 36 ∷ 80 ∷ 91 ∷ 211 ∷ 45 ∷ 160 ∷ 225 ∷ 248 ∷ 93 ∷ 207 ∷ 94 ∷ 25 ∷ 160
    ∷ 157 ∷ 176 ∷ 72 ∷ 30 ∷ 138 ∷ 21 ∷ 246 ∷ 44 ∷ 65 ∷ 235 ∷ 50 ∷ 3 ∷ 4 ∷ 168 ∷ 233 ∷ 39 ∷ []

-- the store: two programs, a route sheet, and the password files of partitions 0 and 2
unfoldable pub image : List ℕ
image =
    file (codes "/desk.out") (codes "desk")
    ++ (file (codes "/alarm.out") (codes "alarm")
    ++ (file (codes "/route sheet.txt") (codes "open 12, close 14; 3 t.\n")
    ++ (file (codes "/scos/pw0") (user first (codes "anna") ++ user second (codes "bert"))
    ++ file (codes "/scos/pw2") (user third (codes "cora")))))

-- dashes, so that a byte that nobody wrote shows as one
unfoldable pub fresh : Areas
fresh = record { image = image; arena = replicate 64 45; tables = replicate 130 45; screens = replicate 6001 45; permissions = replicate 32 (replicate 8 0) }
