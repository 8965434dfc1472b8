-- A run at its front: what the first record makes of it, and what is left.
-- Assumes nothing.
use Rattle.std.proofs.Common.{ℕ, zero, suc, ◌+◌, ◌-◌, ◌<◌, ◌≤◌, ◌≡◌, refl, ap, sym, ◌∙◌, List, Bool, true, false, cond, arith, length, ltb, eqb, eq-eqb, ne_eqb, lt-ltb, le-ltb, ltb-true, ltb-false, Ok, Err}
use Rattle.records.specs.declared.Record.{Record}
use Rattle.records.specs.declared.refusal.Refusal.{Refusal}
use Rattle.records.specs.declared.refusal.Refusal.TheVariants as refusal
use Rattle.records.specs.Refusal.{number_of}
use Rattle.records.specs.Record.{item_at, Item}
use Rattle.records.proofs.Past.{item_past}
use Rattle.state.specs.Full.{Full, Result, result_of, refused}
use Rattle.sound.specs.State.{SoundFull}
use Rattle.kept.specs.Step.{step_sound}
use Rattle.standard.specs.Step.{step}
use Rattle.standard.specs.Run.{Ran, ran, unless_refused, on_item, on_single, run_for, run_from}
use Rattle.calls.specs.Public.{Follows}

-- what follows decides: two ways to go on that agree everywhere agree here
same_unless : (r : Result) (n : ℕ) (g h : Full → Ran) → ((f : Full) → g f ≡ h f) → unless_refused r n g ≡ unless_refused r n h
unfolding unless_refused
same_unless r n g h e = by (eqb r.answer 0)
  where
    by : (t : Bool) → cond t (g r.after) (ran r.answer n r.after) ≡ cond t (h r.after) (ran r.answer n r.after)
    by true = e r.after
    by false = refl

same_item : (i : Item) (n : ℕ) (f : Full) (g h : Record → ℕ → Ran) → ((r : Record) (next : ℕ) → i ≡ Ok (r, next) → g r next ≡ h r next) → on_item i n f g ≡ on_item i n f h
unfolding on_item
same_item (Ok (r, next)) n f g h e = e r next refl
same_item (Err k) n f g h e = refl

run_done : (k : ℕ) (s : List ℕ) (i n : ℕ) (f : Full) → length s ≤ i → run_for k s i n f ≡ ran 0 n f
unfolding run_for
run_done zero s i n f h = refl
run_done (suc k) s i n f h = simp (le-ltb _ _ h)

-- the record at the front, with k more allowed
go : ℕ → List ℕ → ℕ → Full → Record → ℕ → Ran
go k s n f r next = unless_refused (step s r f) n (run_for k s next (n + 1))

run_front : (k : ℕ) (s : List ℕ) (i n : ℕ) (f : Full) → i < length s → run_for (suc k) s i n f ≡ on_item (item_at s i) n f (go k s n f)
unfolding run_for go
run_front k s i n f h = simp (lt-ltb _ _ h)

-- enough is enough
run_enough : (k m : ℕ) (s : List ℕ) (i n : ℕ) (f : Full) → length s ≤ i + k → length s ≤ i + m → run_for k s i n f ≡ run_for m s i n f
unfolding go run_for
run_enough zero m s i n f a b = run_done zero s i n f (omega arith) ∙ sym (run_done m s i n f (omega arith))
run_enough (suc k) zero s i n f a b = run_done (suc k) s i n f (omega arith)
run_enough (suc k) (suc m) s i n f a b =
    by (λ next (lt : i < next) f'. run_enough k m s next (n + 1) f' (omega arith) (omega arith)) (ltb i (length s)) refl
  where
    by : ((next : ℕ) → i < next → (f' : Full) → run_for k s next (n + 1) f' ≡ run_for m s next (n + 1) f') → (t : Bool) → ltb i (length s) ≡ t → run_for (suc k) s i n f ≡ run_for (suc m) s i n f
    by again true e =
        run_front k s i n f (ltb-true _ _ e)
        ∙ same_item (item_at s i) n f (go k s n f) (go m s n f) (λ r next x. same_unless _ n _ _ (again next (item_past s i x)))
        ∙ sym (run_front m s i n f (ltb-true _ _ e))
    by again false e = run_done (suc k) s i n f (ltb-false _ _ e) ∙ sym (run_done (suc m) s i n f (ltb-false _ _ e))

pub run_end : (s : List ℕ) (i n : ℕ) (f : Full) → length s ≤ i → ran 0 n f ≡ run_from s i n f
unfolding run_from
run_end s i n f h = sym (run_done _ s i n f h)

module _ (s : List ℕ) (i n : ℕ) (f : Full) (inside : i < length s) where
  front : run_from s i n f ≡ on_item (item_at s i) n f (go (length s - i - 1) s n f)
  unfolding run_from
  front = run_enough (length s - i) (suc (length s - i - 1)) s i n f (omega arith) (omega arith) ∙ run_front (length s - i - 1) s i n f inside

  pub run_stopped : {k : Refusal} → item_at s i ≡ Err k → ran (number_of k) n f ≡ run_from s i n f
  unfolding on_item
  run_stopped e = sym (front ∙ rw e)

  pub run_unknown : item_at s i ≡ Err refusal.Unknown → ran 2 n f ≡ run_from s i n f
  run_unknown e = run_stopped e

  pub run_bad : item_at s i ≡ Err refusal.BadRecord → ran 9 n f ≡ run_from s i n f
  run_bad e = run_stopped e

  module _ {r : Record} {next : ℕ} (e : item_at s i ≡ Ok (r, next)) where
    pub run_refused : {x : ℕ} {g : Full} → result_of x g ≡ step s r f → (x ≡ 0 → ⊥) → ran x n g ≡ run_from s i n f
    unfolding on_item go unless_refused
    run_refused y h = sym (front ∙ rw (e, ← y) (simp (ne_eqb _ _ h)))

    pub run_more : {x : ℕ} {g : Full} → result_of x g ≡ step s r f → x ≡ 0 → run_from s next (n + 1) g ≡ run_from s i n f
    unfolding on_item go unless_refused run_from
    run_more {x} {g} y h =
        sym (front ∙ rw (e, ← y) (simp (eq-eqb _ _ h) (run_enough (length s - i - 1) (length s - next) s next (n + 1) g (omega (arith, item_past s i e)) (omega (arith, item_past s i e)))))

-- the state after a call that was done is sound
pub after_sound : (s : List ℕ) (r : Record) (f : Full) {x : ℕ} {g : Full} → SoundFull f → result_of x g ≡ step s r f → SoundFull g
after_sound s r f ok e = rw (← ap (λ (y : Result). y.after) e) at (step_sound f ok s r)

-- ---- the record at the front, as a single call has it

module _ (s : List ℕ) (i n : ℕ) (f : Full) (inside : i < length s) {k : ℕ} {g : Full} (y : result_of k g ≡ on_single (item_at s i) s f) where
  -- it was refused: the run ends there
  pub run_stops : (k ≡ 0 → ⊥) → ran k n g ≡ run_from s i n f
  unfolding on_single
  run_stops h = by (item_at s i) refl
    where
      by : (o : Item) → item_at s i ≡ o → ran k n g ≡ run_from s i n f
      by (Ok (r, next)) e = run_refused s i n f inside e (rw e at y) h
      by (Err j) e = let z : result_of k g ≡ refused (number_of j) f = rw e at y in ap (λ (x : Result). ran x.answer n x.after) z ∙ run_stopped s i n f inside e

  -- it was done: the run goes on behind it
  pub run_goes : (next : ℕ) → k ≡ 0 → Follows s i next → run_from s next (n + 1) g ≡ run_from s i n f
  unfolding on_single
  run_goes next h w = by (item_at s i) refl
    where
      by : (o : Item) → item_at s i ≡ o → run_from s next (n + 1) g ≡ run_from s i n f
      by (Ok (r, m)) e = let z : m ≡ next = rw e at w in ap (λ (j : ℕ). run_from s j (n + 1) g) (sym z) ∙ run_more s i n f inside e (rw e at y) h
      by (Err j) e = absurd (rw e at w)

-- the state after it is sound
pub item_sound : (s : List ℕ) (i : ℕ) (f : Full) {k : ℕ} {g : Full} → SoundFull f → result_of k g ≡ on_single (item_at s i) s f → SoundFull g
unfolding on_single
item_sound s i f {g = g} ok y = by (item_at s i) refl
  where
    by : (o : Item) → item_at s i ≡ o → SoundFull g
    by (Ok (r, next)) e = after_sound s r f ok (rw e at y)
    by (Err j) e = let z = ap (λ (x : Result). x.after) (rw e at y) in rw (← z) at ok

-- and what follows it starts further on
pub follows_past : (s : List ℕ) (i next : ℕ) → Follows s i next → i < next
follows_past s i next w = by (item_at s i) refl
  where
    by : (o : Item) → item_at s i ≡ o → i < next
    by (Ok (r, m)) e = let z : m ≡ next = rw e at w in rw z at (item_past s i e)
    by (Err j) e = absurd (rw e at w)
