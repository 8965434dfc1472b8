-- The walk of a reset ends at a template exactly where `EndsAtTemplate` says so.
-- Assumes nothing.
use Rattle.std.proofs.Common.{ℕ, zero, suc, ◌<◌, ◌≡◌, refl, sym, ◌∙◌, Bool, true, false, cond, ◌&&◌, arith, eqb, eqb-true, eq-eqb, Option}
use Rattle.std.proofs.Math.Decide.{ℕ_discrete}
use Rattle.names.specs.Space as space
use Rattle.names.specs.Tag as tag
use Rattle.names.specs.Sets.{member}
use Rattle.theory.specs.Says.{Says, f≢}
use Rattle.state.specs.Full.{Full}
use Rattle.standard.specs.Refusals.{applies}
use Rattle.queries.specs.declared.reset.Reset.{Reset}
use Rattle.queries.specs.declared.reset.Reset.TheVariants.{Mode, Template}
use Rattle.queries.specs.Element.{Expanded}
use Rattle.queries.specs.Reset.{onward, walked}
use Rattle.interface.specs.Questions as questions
use Rattle.interface.specs.Questions.{deciding, decides, is_template, entry_of, at_template, EndsAtTemplate, refusals_of_question}
use Rattle.interface.proofs.Entry.{Fits, mode, template, next, fits_entry}

-- ---- the walk

unfoldable pub ends_there : Reset → Bool
ends_there (Mode m) = false
ends_there Template = true

fits_on : {t : Bool} {s : Option Reset} {d : Bool} (r : Reset) (b : Bool) → Fits t s d → ends_there r ≡ b → ends_there (onward s r) ≡ cond d t b
unfolding onward ends_there
fits_on r b (mode e) h = sym e
fits_on r b (template e) h = sym e
fits_on r b next h = h

module _ (f : Full) where
  pub walk_ends : (k : ℕ) → ends_there (walked f.nodes.mem f.stack f.context f.flags.head k) ≡ at_template f k
  unfolding walked at_template ends_there entry_of
  walk_ends zero = refl
  walk_ends (suc k) = fits_on _ _ (fits_entry f.flags.head (eqb k 0) (entry_of f k)) (walk_ends k)

  -- ---- in words

  -- the template, where the test says so
  ends_at : (k : ℕ) → at_template f k ≡ true
      → (i : ℕ) × (i < k) × (is_template (entry_of f i) ≡ true) × ((j : ℕ) → i < j → j < k → decides (eqb j 0) (entry_of f j) ≡ false)
  unfolding at_template
  ends_at zero e = f≢ e
  ends_at (suc k) e = by (decides (eqb k 0) (entry_of f k)) refl e (ends_at k)
    where
      by : (b : Bool) → decides (eqb k 0) (entry_of f k) ≡ b → cond b (is_template (entry_of f k)) (at_template f k) ≡ true
          → (at_template f k ≡ true → (i : ℕ) × (i < k) × (is_template (entry_of f i) ≡ true) × ((j : ℕ) → i < j → j < k → decides (eqb j 0) (entry_of f j) ≡ false))
          → (i : ℕ) × (i < suc k) × (is_template (entry_of f i) ≡ true) × ((j : ℕ) → i < j → j < suc k → decides (eqb j 0) (entry_of f j) ≡ false)
      by true g h r = (k, omega arith, h, λ j a b. absurd (omega arith))
      by false g h r =
          let w = r h in
          (w.0, omega (arith, w.1), w.2, λ j a b. at j (ℕ_discrete j k) (λ c. w.3 j a c) b)
        where
          at : (j : ℕ) → Dec (j ≡ k) → (j < k → decides (eqb j 0) (entry_of f j) ≡ false) → j < suc k → decides (eqb j 0) (entry_of f j) ≡ false
          at j (yes y) r b = rw y g
          at j (no y) r b = r (omega arith)

  -- a template decides
  template_decides : (last : Bool) (e : Expanded) → is_template e ≡ true → decides last e ≡ true
  unfolding is_template decides deciding
  template_decides last e h = by (eqb e.space space.html) last h
    where
      by : (b last : Bool) → b && eqb e.name tag.template ≡ true → b && member e.name (deciding last) ≡ true
      by true true h = rw (eqb-true e.name tag.template h)
      by true false h = rw (eqb-true e.name tag.template h)
      by false last h = f≢ h

  -- and the test says so where there is one
  at_ends : (k i : ℕ) → i < k → is_template (entry_of f i) ≡ true → ((j : ℕ) → i < j → j < k → decides (eqb j 0) (entry_of f j) ≡ false) → at_template f k ≡ true
  unfolding at_template
  at_ends zero i a h n = absurd (omega arith)
  at_ends (suc k) i a h n = by (ℕ_discrete i k) (at_ends k i)
    where
      by : Dec (i ≡ k) → (i < k → is_template (entry_of f i) ≡ true → ((j : ℕ) → i < j → j < k → decides (eqb j 0) (entry_of f j) ≡ false) → at_template f k ≡ true)
          → cond (decides (eqb k 0) (entry_of f k)) (is_template (entry_of f k)) (at_template f k) ≡ true
      by (yes y) r = let g = rw y at h in rw (template_decides (eqb k 0) (entry_of f k) g) g
      by (no y) r = rw (n k (omega arith) (omega arith)) (r (omega arith) h (λ j b c. n j b (omega arith)))

  -- the test says that the walk ends at a template exactly where it does
  pub template_says : Says (EndsAtTemplate f) (at_template f f.stack.size)
  template_says =
      record {
        good = λ e. let w = ends_at f.stack.size e in record { place = w.0; held = w.1; template = w.2; first = w.3 };
        bad = λ e w. f≢ (sym e ∙ at_ends f.stack.size w.place w.held w.template w.first);
      }

  -- 3 applies to a reset exactly if the walk ends at a template and there is no template mode
  pub reset_three : Says (EndsAtTemplate f × (f.modes.size ≡ 0)) (applies (refusals_of_question questions.reset f) 3)
  unfolding refusals_of_question applies
  reset_three =
      record {
        good = λ e. let h = both _ _ e in (template_says.good h.0, eqb-true f.modes.size 0 h.1);
        bad = λ e w. f≢ (sym e ∙ rw (yes_says template_says w.0, eq-eqb f.modes.size 0 w.1));
      }
    where
      both : (a b : Bool) → a && b ≡ true → (a ≡ true) × (b ≡ true)
      both true b e = (refl, e)
      both false b e = f≢ e

      yes_says : {P : Type 0} {b : Bool} → Says P b → P → b ≡ true
      yes_says {b = true} s p = refl
      yes_says {b = false} s p = absurd (s.bad refl p)
