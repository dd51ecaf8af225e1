-- Three leaks that demand 3 shuts out. Each is a build that does what the definitions say save for one kind of move, and there it lets something of a password be
-- seen. For each, two runs that start alike but for the digest of "ab" in partition 0's password file, and receive the same moves, come out different in
-- something that demand 3 says is the same.
use Rattle.std.specs.Prelude.{cond, List, [], ◌∷◌, ◌++◌, ◌≢◌, ◌≡◌, refl, ℕ, ◌+◌, eqb, get_or, replicate, Option, Some, None}
use Rattle.std.proofs.Common.{sym, ap, ◌∙◌, arith}
use Rattle.octets.specs.Lists.{part}
use Rattle.sha256.specs.Digest.{digest}
use Rattle.sha256_examples.specs.Examples.{abc}
use Rattle.passwords.specs.declared.Lookup.{Lookup}
use Rattle.passwords.specs.declared.Entry.{Entry}
use Rattle.passwords.specs.Account.{digest_length}
use Rattle.passwords.specs.PasswordFile.{find}
use Rattle.state.specs.declared.Login.TheVariants.{Nobody, User}
use Rattle.accounts.specs.Strings.{string_of}
use Rattle.accounts.specs.Users.{is_user, user_name}
use Rattle.terminal.specs.Terminal.{record_of, table_of}
use Rattle.steps.specs.World.{World, Move, Result, becomes, step, after}
use Rattle.steps.specs.World.Move.{Login, Shutdown, Attention}
use Rattle.refuted.specs.Build.{Build, Meets, after_by, save_login, save_shutdown, save_attention, saving}
use Rattle.refuted.specs.Room.{room, sevens, ab}
use Rattle.refuted.specs.Alike.{Alike, blanked_at}
use Rattle.refuted.specs.Logins.{result_of, abc_text, abc_digest, opened_logins, abc_right, sevens_wrong}

-- "ab" asks partition 0 to be logged in with the password "abc"
abbrev enter : Move
enter = Login 0 ab abc_text

-- ---- a login's count that depends on the digest

-- how many first bytes of two digests are the same
unfoldable pub same_first : List ℕ → List ℕ → ℕ
same_first [] l = 0
same_first (a ∷ k) [] = 0
same_first (a ∷ k) (b ∷ l) = cond (eqb a b) (1 + same_first k l) 0

-- the digest that a search has found
abbrev pub digest_of_entry : List ℕ → Option Entry → List ℕ
digest_of_entry table None = []
digest_of_entry table (Some e) = part e.digest digest_length table

unfoldable pub digest_found : List ℕ → Lookup → List ℕ
digest_found table found = digest_of_entry table found.entry

-- at AUTH_FAILURE, the count also tells how many bytes of the two digests were found the same before one differed
unfoldable pub step_leaking_count : Build
step_leaking_count = save_login (λ w p name password.
    let r = step w (Login p name password) in
    let table = table_of w.terminal p w.tables in
    let agreeing = same_first (digest (string_of password)) (digest_found table (find (string_of name) table)) in
    record { number = r.number; count = cond (eqb r.number 300) (r.count + agreeing) r.count; buffer = r.buffer; world = r.world })

-- a digest whose first byte is that of the digest of "abc"
unfoldable pub near : List ℕ
near = 0xba ∷ replicate 31 7

-- demand 3: "If besides each of its logins gets the same answer number, .. then those answers, their work counts .. are the same too." With the digest of "ab"
-- being sevens, or near, the login with "abc" is refused both times, and the counts tell which it was.
pub record CountLeaks : Type 0 where
  pub alike : Alike 0 (room Nobody sevens) (room Nobody near)
  pub refused : (step_leaking_count (room Nobody sevens) enter).number ≡ 300
  pub refused_near : (step_leaking_count (room Nobody near) enter).number ≡ 300
  pub counts : (step_leaking_count (room Nobody sevens) enter).count ≢ (step_leaking_count (room Nobody near) enter).count
  -- the definitions give both the same count
  pub defined : (step (room Nobody sevens) enter).count ≡ (step (room Nobody near) enter).count

count_far : (step_leaking_count (room Nobody sevens) enter).count ≡ 2
unfolding opened_logins step_leaking_count saving digest_found same_first
count_far = rw abc

count-near : (step_leaking_count (room Nobody near) enter).count ≡ 3
unfolding opened_logins step_leaking_count saving digest_found same_first near
count-near = rw abc

near_wrong : step (room Nobody near) enter ≡ result_of 300 2 (room Nobody near)
unfolding opened_logins near
near_wrong = rw abc

sevens-near : Alike 0 (room Nobody sevens) (room Nobody near)
unfolding opened_logins blanked_at near
sevens-near = record { terminal = refl; permissions = refl; arena = refl; screens = refl; store = refl; tables = refl }

pub count_leaks : CountLeaks
unfolding step_leaking_count saving
count_leaks =
    record {
      alike = sevens-near;
      refused = ap (λ (r : Result). r.number) sevens_wrong;
      refused_near = ap (λ (r : Result). r.number) near_wrong;
      counts = λ e. (let same : ◌≡◌ {A = ℕ} 2 3 = sym count_far ∙ e ∙ count-near in omega arith);
      defined = ap (λ (r : Result). r.count) sevens_wrong ∙ ap (λ (r : Result). r.count) (sym near_wrong);
    }

-- ---- a focus that depends on who is logged in

-- the attention key is ignored while somebody is logged in at the focused partition
unfoldable pub step_leaking_focus : Build
step_leaking_focus = save_attention (λ w. cond (is_user (record_of w.terminal w.terminal.state.focus).user) (becomes w w.terminal) (step w Attention))

abbrev pub focus_of : World → ℕ
focus_of w = w.terminal.state.focus

-- demand 3: "Everything is the same in both but" what it lists, and the focus is not in the list. "ab" asks to be logged in with "abc", which is right in the one run
-- and wrong in the other; then the attention key is pressed.
pub record FocusLeaks : Type 0 where
  pub alike : Alike 0 (room Nobody abc_digest) (room Nobody sevens)
  pub focus : focus_of (after_by step_leaking_focus (room Nobody abc_digest) (enter ∷ Attention ∷ [])) ≢ focus_of (after_by step_leaking_focus (room Nobody sevens) (enter ∷ Attention ∷ []))
  -- the definitions give both the same focus
  pub defined : focus_of (after (room Nobody abc_digest) (enter ∷ Attention ∷ [])) ≡ focus_of (after (room Nobody sevens) (enter ∷ Attention ∷ []))

abc_sevens : Alike 0 (room Nobody abc_digest) (room Nobody sevens)
unfolding opened_logins blanked_at
abc_sevens = record { terminal = refl; permissions = refl; arena = refl; screens = refl; store = refl; tables = refl }

-- the attention key where "ab" is logged in, and where nobody is
stays : focus_of (step_leaking_focus (room (User 0) abc_digest) Attention).world ≡ 0
unfolding opened_logins step_leaking_focus saving
stays = refl

moves : focus_of (step_leaking_focus (room Nobody sevens) Attention).world ≡ 1
unfolding opened_logins step_leaking_focus saving
moves = refl

moves_both : focus_of (step (room (User 0) abc_digest) Attention).world ≡ focus_of (step (room Nobody sevens) Attention).world
unfolding opened_logins
moves_both = refl

pub focus_leaks : FocusLeaks
unfolding after_by after step_leaking_focus saving
focus_leaks =
    record {
      alike = abc_sevens;
      focus = λ e.
          (let same : ◌≡◌ {A = ℕ} 0 1 =
          sym stays ∙ sym (ap (λ (r : Result). focus_of (step_leaking_focus r.world Attention).world) abc_right) ∙ e
          ∙ ap (λ (r : Result). focus_of (step_leaking_focus r.world Attention).world) sevens_wrong ∙ moves in
          omega arith);
      defined =
          ap (λ (r : Result). focus_of (step r.world Attention).world) abc_right ∙ moves_both
          ∙ sym (ap (λ (r : Result). focus_of (step r.world Attention).world) sevens_wrong);
    }

-- ---- a shutdown text that names the user

-- the name of whoever is logged in at the calling partition is shown before the message
unfoldable pub step_leaking_text : Build
step_leaking_text = save_shutdown (λ w p message. step w (Shutdown p (user_name (record_of w.terminal p).user (table_of w.terminal p w.tables) ++ message)))

-- partition 0 shuts the terminal down, with an empty message
abbrev halting : Move
halting = Shutdown 0 (0 ∷ [])

-- demand 3: "Everything is the same in both but" what it lists, and the screens are not in the list. "ab" asks to be logged in with "abc", which is right in the one run and
-- wrong in the other; then partition 0 shuts the terminal down.
pub record TextLeaks : Type 0 where
  pub alike : Alike 0 (room Nobody abc_digest) (room Nobody sevens)
  pub screens : (after_by step_leaking_text (room Nobody abc_digest) (enter ∷ halting ∷ [])).screens ≢ (after_by step_leaking_text (room Nobody sevens) (enter ∷ halting ∷ [])).screens
  -- the definitions give both the same screens
  pub defined : (after (room Nobody abc_digest) (enter ∷ halting ∷ [])).screens ≡ (after (room Nobody sevens) (enter ∷ halting ∷ [])).screens

-- the first cell of partition 0's screen
abbrev corner : List ℕ → ℕ
corner screens = get_or screens 0 0

named : corner (step_leaking_text (room (User 0) abc_digest) halting).world.screens ≡ 97
unfolding opened_logins step_leaking_text saving
named = refl

unnamed : corner (step_leaking_text (room Nobody sevens) halting).world.screens ≡ 32
unfolding opened_logins step_leaking_text saving
unnamed = refl

halted-both : (step (room (User 0) abc_digest) halting).world.screens ≡ (step (room Nobody sevens) halting).world.screens
unfolding opened_logins
halted-both = refl

pub text_leaks : TextLeaks
unfolding after_by after step_leaking_text saving
text_leaks =
    record {
      alike = abc_sevens;
      screens = λ e.
          (let same : ◌≡◌ {A = ℕ} 97 32 =
          sym named ∙ sym (ap (λ (r : Result). corner (step_leaking_text r.world halting).world.screens) abc_right) ∙ ap corner e
          ∙ ap (λ (r : Result). corner (step_leaking_text r.world halting).world.screens) sevens_wrong ∙ unnamed in
          omega arith);
      defined =
          ap (λ (r : Result). (step r.world halting).world.screens) abc_right ∙ halted-both
          ∙ sym (ap (λ (r : Result). (step r.world halting).world.screens) sevens_wrong);
    }

-- ---- a build that meets the definitions has none of the three

after-meets : (build : Build) → Meets build → (w : World) (ms : List Move) → after_by build w ms ≡ after w ms
unfolding after_by after
after-meets build meets w [] = refl
after-meets build meets w (m ∷ ms) = after-meets build meets (build w m).world ms ∙ ap (λ (r : Result). after r.world ms) (meets w m)

pub count_refuted : Meets step_leaking_count → ⊥
count_refuted meets =
    count_leaks.counts (ap (λ (r : Result). r.count) (meets _ enter) ∙ count_leaks.defined ∙ ap (λ (r : Result). r.count) (sym (meets _ enter)))

pub focus_refuted : Meets step_leaking_focus → ⊥
focus_refuted meets =
    focus_leaks.focus
    (ap focus_of (after-meets step_leaking_focus meets _ (enter ∷ Attention ∷ [])) ∙ focus_leaks.defined
    ∙ sym (ap focus_of (after-meets step_leaking_focus meets _ (enter ∷ Attention ∷ []))))

pub text_refuted : Meets step_leaking_text → ⊥
text_refuted meets =
    text_leaks.screens
    (ap (λ (w : World). w.screens) (after-meets step_leaking_text meets _ (enter ∷ halting ∷ [])) ∙ text_leaks.defined
    ∙ sym (ap (λ (w : World). w.screens) (after-meets step_leaking_text meets _ (enter ∷ halting ∷ []))))
