-- Laws of the screen: putting bytes keeps it a screen, and putting a run is putting its parts one after the other.
use Rattle.std.specs.Prelude.{Bool, true, false, ◌&&◌, List, [], ◌∷◌, ◌++◌, ◌≡◌, refl, ℕ, ◌+◌, ◌/◌, ◌%◌, ◌≤◌, ◌<◌, eqb, ltb, length, drop, set, get_or}
use Rattle.std.proofs.Common.{sym, ◌∙◌, add-one, arith, length-append, length-drop, length-set, drop-cons, lt-ltb, le-ltb, eq-eqb, ne_eqb, ltb-true, eqb-true}
use Rattle.std.proofs.lemmas.List.{length-replicate}
use Rattle.devices.specs.Choice.{by_cond}
use Rattle.devices.specs.Screen.{Screen, screen, blanks, row, column, scrolled, next_row, advance, back, placed, put, put_all, is_screen, on_screen}

-- ---- what is a screen

-- 2,000 cells and a cursor among them, as facts
abbrev pub IsScreen : Screen → Type 0
IsScreen s = (length s.cells ≡ 2000) × (s.cursor < 2000)

pub is_screen_true : (s : Screen) → IsScreen s → is_screen s ≡ true
unfolding is_screen
is_screen_true s h = rw (eq-eqb _ _ h.0, lt-ltb _ _ h.1)

both : (a b : Bool) → (a && b) ≡ true → (a ≡ true) × (b ≡ true)
both true b e = (refl, e)
both false true e = (e, refl)
both false false e = (e, e)

pub is_screen_facts : (s : Screen) → is_screen s ≡ true → IsScreen s
unfolding is_screen
is_screen_facts s e =
    let w = both (eqb (length s.cells) 2000) (ltb s.cursor 2000) e in
    (eqb-true _ _ w.0, ltb-true _ _ w.1)

pub on_screen-is : (f : Screen → Screen) (s : Screen) → IsScreen s → on_screen f s ≡ f s
unfolding on_screen
on_screen-is f s h = rw (is_screen_true s h)

pub on_screen-not : (f : Screen → Screen) (s : Screen) → is_screen s ≡ false → on_screen f s ≡ s
unfolding on_screen
on_screen-not f s e = rw e

-- what has not 2,000 cells is no screen
pub on_screen-other : (f : Screen → Screen) (s : Screen) → (length s.cells ≡ 2000 → ⊥) → on_screen f s ≡ s
unfolding on_screen is_screen
on_screen-other f s h = rw (ne_eqb _ _ h)

-- and neither is what has its cursor elsewhere
pub on_screen-away : (f : Screen → Screen) (s : Screen) → length s.cells ≡ 2000 → 2000 ≤ s.cursor → on_screen f s ≡ s
unfolding on_screen is_screen
on_screen-away f s e h = rw (eq-eqb _ _ e, le-ltb _ _ h)

-- ---- what is put on a screen leaves a screen

pub length-scrolled : (cells : List ℕ) → length cells ≡ 2000 → length (scrolled cells) ≡ 2000
unfolding scrolled
length-scrolled cells e = rw (length-append, length-drop, length-replicate {A = ℕ} 80 32, e)

pub next_row-screen : (s : Screen) → IsScreen s → IsScreen (next_row s)
unfolding next_row row
next_row-screen s h =
    by_cond IsScreen (ltb (s.cursor / 80) 24)
    (λ e. (h.0, omega (arith, ltb-true (s.cursor / 80) 24 e)))
    (λ e. (length-scrolled s.cells h.0, omega arith))

pub advance-screen : (s : Screen) → IsScreen s → IsScreen (advance s)
unfolding advance column
advance-screen s h =
    by_cond IsScreen (ltb (s.cursor % 80) 79)
    (λ e. (h.0, omega (arith, ltb-true (s.cursor % 80) 79 e)))
    (λ e. next_row-screen s h)

pub back-screen : (s : Screen) → IsScreen s → IsScreen (back s)
unfolding back
back-screen s h =
    (h.0, by_cond (λ (n : ℕ). n < 2000) (eqb (column s.cursor) 0) (λ e. h.1) (λ e. omega arith))

pub placed-screen : (byte : ℕ) (s : Screen) → IsScreen s → IsScreen (placed byte s)
unfolding placed
placed-screen byte s h =
    advance-screen (screen (set s.cells s.cursor byte) s.cursor) (length-set s.cells s.cursor byte ∙ h.0, h.1)

pub put-screen : (byte : ℕ) (s : Screen) → IsScreen s → IsScreen (put byte s)
unfolding put row
put-screen byte s h =
    by_cond IsScreen (eqb byte 10) (λ e. next_row-screen s h)
    (λ e. by_cond IsScreen (eqb byte 13) (λ e. (h.0, omega arith))
    (λ e. by_cond IsScreen (eqb byte 8) (λ e. back-screen s h) (λ e. placed-screen byte s h)))

pub put_all-screen : (bytes : List ℕ) (s : Screen) → IsScreen s → IsScreen (put_all bytes s)
unfolding put_all
put_all-screen [] s h = h
put_all-screen (byte ∷ bytes) s h = put_all-screen bytes (put byte s) (put-screen byte s h)

-- the same, of the test
pub is_screen-put : (byte : ℕ) (s : Screen) → is_screen s ≡ true → is_screen (put byte s) ≡ true
is_screen-put byte s e = is_screen_true (put byte s) (put-screen byte s (is_screen_facts s e))

pub is_screen-put_all : (bytes : List ℕ) (s : Screen) → is_screen s ≡ true → is_screen (put_all bytes s) ≡ true
is_screen-put_all bytes s e = is_screen_true (put_all bytes s) (put_all-screen bytes s (is_screen_facts s e))

-- a blanked screen with the cursor at its start is one
pub blank-screen : IsScreen (screen (blanks 2000) 0)
blank-screen = (length-replicate {A = ℕ} 2000 32, omega arith)

-- the two halves of it
pub length-put_all : (bytes : List ℕ) (s : Screen) → IsScreen s → length (put_all bytes s).cells ≡ 2000
length-put_all bytes s h = (put_all-screen bytes s h).0

pub cursor-put_all : (bytes : List ℕ) (s : Screen) → IsScreen s → (put_all bytes s).cursor < 2000
cursor-put_all bytes s h = (put_all-screen bytes s h).1

-- ---- a run is its parts, one after the other

pub put_all-none : (s : Screen) → put_all [] s ≡ s
unfolding put_all
put_all-none s = refl

pub put_all-cons : (byte : ℕ) (bytes : List ℕ) (s : Screen) → put_all (byte ∷ bytes) s ≡ put_all bytes (put byte s)
unfolding put_all
put_all-cons byte bytes s = refl

pub put_all-append : (a b : List ℕ) (s : Screen) → put_all (a ++ b) s ≡ put_all b (put_all a s)
unfolding put_all
put_all-append [] b s = refl
put_all-append (byte ∷ a) b s = put_all-append a b (put byte s)

-- from one byte of a run to the next
pub put_all-from : (bytes : List ℕ) (i : ℕ) (s : Screen) → i < length bytes → put_all (drop i bytes) s ≡ put_all (drop (i + 1) bytes) (put (get_or bytes i 0) s)
unfolding put_all
put_all-from bytes i s h = rw (drop-cons bytes i 0 h, add-one)

pub on_screen-put_all : (a b : List ℕ) (s : Screen) → on_screen (put_all (a ++ b)) s ≡ on_screen (put_all b) (on_screen (put_all a) s)
on_screen-put_all a b s = go (is_screen s) refl
  where
    go : (t : Bool) → is_screen s ≡ t → on_screen (put_all (a ++ b)) s ≡ on_screen (put_all b) (on_screen (put_all a) s)
    go true e =
        let h : IsScreen s = is_screen_facts s e in
        rw (on_screen-is (put_all (a ++ b)) s h, on_screen-is (put_all a) s h, on_screen-is (put_all b) (put_all a s) (put_all-screen a s h)) (put_all-append a b s)
    go false e = rw (on_screen-not (put_all (a ++ b)) s e, on_screen-not (put_all a) s e, on_screen-not (put_all b) s e)

-- one byte is a run of one
pub on_screen-put : (byte : ℕ) (s : Screen) → on_screen (put byte) s ≡ on_screen (put_all (byte ∷ [])) s
unfolding on_screen put_all
on_screen-put byte s = refl

-- whatever is given, the number of cells stays
pub length-on_screen : (bytes : List ℕ) (s : Screen) → length (on_screen (put_all bytes) s).cells ≡ length s.cells
length-on_screen bytes s = go (is_screen s) refl
  where
    go : (t : Bool) → is_screen s ≡ t → length (on_screen (put_all bytes) s).cells ≡ length s.cells
    go true e =
        let h : IsScreen s = is_screen_facts s e in
        rw (on_screen-is (put_all bytes) s h) (length-put_all bytes s h ∙ sym h.0)
    go false e = rw (on_screen-not (put_all bytes) s e)

-- what is a screen stays one, what is none stays none
pub is_screen-on_screen : (bytes : List ℕ) (s : Screen) → is_screen (on_screen (put_all bytes) s) ≡ is_screen s
is_screen-on_screen bytes s = go (is_screen s) refl
  where
    go : (t : Bool) → is_screen s ≡ t → is_screen (on_screen (put_all bytes) s) ≡ is_screen s
    go true e =
        let h : IsScreen s = is_screen_facts s e in
        rw (on_screen-is (put_all bytes) s h) (is_screen_true (put_all bytes s) (put_all-screen bytes s h) ∙ sym e)
    go false e = rw (on_screen-not (put_all bytes) s e)
