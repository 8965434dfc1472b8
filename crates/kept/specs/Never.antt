-- No call sticks: every call and every run, on any bytes and in any state, has one of the answers below, and a call that is refused
-- changes nothing. A run that answers 0 has come to the end of its input, and any other has stopped at the first record refused;
-- its state is the one after the records before it.
-- Assumes nothing.
use Rattle.std.specs.Prelude.{ℕ, zero, suc, ◌+◌, ◌-◌, ◌≤◌, min, ◌≡◌, refl, ◌≢◌, ◌⊎◌, Bool, true, false, cond, List, length, eqb, ltb, Option}
use Rattle.std.proofs.Common.{inl, inr, arith, ltb-false, eqb-true, ne_eqb, Ok, Err}
use Rattle.std.proofs.lemmas.Bool.{eqb-false}
use Rattle.lent.specs.Room.{free_nodes}
use Rattle.records.specs.declared.Record.{Record}
use Rattle.records.specs.declared.refusal.Refusal.{Refusal}
use Rattle.records.specs.declared.refusal.Refusal.TheVariants as refusal
use Rattle.records.specs.Refusal.{number_of}
use Rattle.records.specs.Record.{item_at, Item}
use Rattle.records.proofs.Past.{item_past, item_told}
use Rattle.state.specs.declared.State.{State}
use Rattle.state.specs.declared.Context.{Context}
use Rattle.state.specs.Full.{Full}
use Rattle.standard.specs.Step.{step}
use Rattle.standard.specs.Begin.{bad_context, first_modes, begin_answer, begun, begin_of}
use Rattle.standard.specs.Run.{Ran, ran, unless_refused, on_item, run_for, run_from, run_of, on_single, single}
use Rattle.kept.specs.Fair.{Answer, step_fair}

-- ---- one call

-- a call answers 0, 2, 3, 4, 5, 6, 7 or 8
pub step_answers : (s : List ℕ) (r : Record) (f : Full) → Answer 8 (step s r f).answer
step_answers s r f = (step_fair f s r).answers

-- a call that is refused changes nothing
pub step_refused : (s : List ℕ) (r : Record) (f : Full) → (step s r f).answer ≢ 0 → (step s r f).after ≡ f
step_refused s r f = (step_fair f s r).keeps

-- ---- a record alone

wider : (n : ℕ) → (n ≡ 0) ⊎ ((2 ≤ n) × (n ≤ 8)) → Answer 9 n
wider n (inl e) = record { one = inl e }
wider n (inr h) = record { one = inr (h.0, omega arith) }

-- a record alone answers 0 or 2 to 9
pub single_answers : (s : List ℕ) (f : Full) → Answer 9 (single s f).answer
unfolding single on_single
single_answers s f = by (item_at s 0) refl
  where
    told : (k : Refusal) → (k ≡ refusal.Unknown) ⊎ (k ≡ refusal.BadRecord) → Answer 9 (number_of k)
    told k (inl e) = record { one = inr (rw e (omega arith, omega arith)) }
    told k (inr e) = record { one = inr (rw e (omega arith, omega arith)) }

    by : (i : Item) → item_at s 0 ≡ i → Answer 9 (on_single i s f).answer
    by (Ok (r, next)) e = wider _ (step_answers s r f).one
    by (Err k) e = told k (item_told s 0 e)

-- a record that is refused changes nothing
pub single_refused : (s : List ℕ) (f : Full) → (single s f).answer ≢ 0 → (single s f).after ≡ f
unfolding single on_single
single_refused s f = by (item_at s 0)
  where
    by : (i : Item) → (on_single i s f).answer ≢ 0 → (on_single i s f).after ≡ f
    by (Ok (r, next)) d = step_refused s r f d
    by (Err k) d = refl

-- ---- runs

-- from byte i and the state f on, n records are done one after the other: they end at byte j, in the state g
pub data Took (s : List ℕ) : ℕ → Full → ℕ → ℕ → Full → Type 0 where
  none : {i : ℕ} {f : Full} → Took s i f 0 i f
  more : {i n j next : ℕ} {r : Record} {f g : Full} → item_at s i ≡ Ok (r, next) → (step s r f).answer ≡ 0 → Took s next (step s r f).after n j g
      → Took s i f (suc n) j g

-- a run stops at byte j, in the state g, with this answer: at the end of the input with 0, at a call that is not known with 2, at a
-- record that is cut short or badly written with 9, and at a call that is refused with its answer
pub data Stops (s : List ℕ) (j : ℕ) (g : Full) : ℕ → Type 0 where
  over : length s ≤ j → Stops s j g 0
  unknown : item_at s j ≡ Err refusal.Unknown → Stops s j g 2
  broken : item_at s j ≡ Err refusal.BadRecord → Stops s j g 9
  denied : {r : Record} {next x : ℕ} → item_at s j ≡ Ok (r, next) → (step s r g).answer ≡ x → x ≢ 0 → Stops s j g x

-- what a run from byte i and the state f on has done, n records being done before it
pub record Ends (s : List ℕ) (i n : ℕ) (f : Full) (r : Ran) : Type 0 where
  pub count : ℕ
  pub byte : ℕ
  pub total : r.done ≡ n + count
  pub took : Took s i f count byte r.after
  pub stops : Stops s byte r.after r.answer

pub run_ends : (k : ℕ) (s : List ℕ) (i n : ℕ) (f : Full) → length s ≤ i + k → Ends s i n f (run_for k s i n f)
unfolding run_for on_item unless_refused
run_ends zero s i n f h = record { count = 0; byte = i; total = omega arith; took = none; stops = over (omega arith) }
run_ends (suc k) s i n f h =
    by (ltb i (length s)) refl (item_at s i) refl (λ next g le. run_ends k s next (n + 1) g le)
  where
    go : (r : Record) (next : ℕ) → item_at s i ≡ Ok (r, next) → ((g : Full) → Ends s next (n + 1) g (run_for k s next (n + 1) g)) → (b : Bool)
        → eqb (step s r f).answer 0 ≡ b
        → Ends s i n f (cond b (run_for k s next (n + 1) (step s r f).after) (ran (step s r f).answer n (step s r f).after))
    go r next e rest true t =
        let w = rest (step s r f).after in
        record {
          count = suc w.count;
          byte = w.byte;
          total = omega (arith, w.total);
          took = more e (eqb-true _ _ t) w.took;
          stops = w.stops;
        }
    go r next e rest false t =
        let d = eqb-false _ _ t in
        let same = step_refused s r f d in
        record { count = 0; byte = i; total = omega arith; took = rw same none; stops = rw same (denied e refl d) }

    stopped : (k : Refusal) → item_at s i ≡ Err k → (k ≡ refusal.Unknown) ⊎ (k ≡ refusal.BadRecord) → Stops s i f (number_of k)
    stopped k e (inl u) = rw u (unknown (rw u at e))
    stopped k e (inr u) = rw u (broken (rw u at e))

    item : (j : Item) → item_at s i ≡ j → ((next : ℕ) (g : Full) → length s ≤ next + k → Ends s next (n + 1) g (run_for k s next (n + 1) g))
        → Ends s i n f (on_item j n f (λ (r : Record) (next : ℕ). unless_refused (step s r f) n (run_for k s next (n + 1))))
    item (Ok (r, next)) e rest =
        let p = item_past s i e in
        go r next e (λ g. rest next g (omega arith)) (eqb (step s r f).answer 0) refl
    item (Err k) e rest = record { count = 0; byte = i; total = omega arith; took = none; stops = stopped k e (item_told s i e) }

    by : (b : Bool) → ltb i (length s) ≡ b → (j : Item) → item_at s i ≡ j
        → ((next : ℕ) (g : Full) → length s ≤ next + k → Ends s next (n + 1) g (run_for k s next (n + 1) g))
        → Ends s i n f (cond b (on_item j n f (λ (r : Record) (next : ℕ). unless_refused (step s r f) n (run_for k s next (n + 1)))) (ran 0 n f))
    by true t j e rest = item j e rest
    by false t j e rest = record { count = 0; byte = i; total = omega arith; took = none; stops = over (ltb-false i (length s) t) }

-- a run does records up to the end of its input, or up to the first that is refused, and its state is the one after them
pub run_done : (s : List ℕ) (f : Full) → (j : ℕ) × Took s 0 f (run_of s f).done j (run_of s f).after × Stops s j (run_of s f).after (run_of s f).answer
unfolding run_of run_from
run_done s f =
    let w = run_ends (length s - 0) s 0 0 f (omega arith) in
    let e : w.count ≡ (run_for (length s - 0) s 0 0 f).done = omega (arith, w.total) in
    (w.byte, rw e at w.took, w.stops)

-- a run answers 0 or 2 to 9
pub run_answers : (s : List ℕ) (f : Full) → Answer 9 (run_of s f).answer
run_answers s f = by (run_done s f).2
  where
    by : {j x : ℕ} {g : Full} → Stops s j g x → Answer 9 x
    by (over h) = record { one = inl refl }
    by (unknown e) = record { one = inr (omega arith, omega arith) }
    by (broken e) = record { one = inr (omega arith, omega arith) }
    by {g = g} (denied {r} {next} {x} e t d) = rw t at (wider _ (step_answers s r g).one)

-- a run that answers 0 has done records up to the end of its input
pub run_over : (s : List ℕ) (f : Full) → (run_of s f).answer ≡ 0 → (j : ℕ) × (length s ≤ j) × Took s 0 f (run_of s f).done j (run_of s f).after
run_over s f h = let t = run_done s f in (t.0, by t.2 h, t.1)
  where
    by : {j x : ℕ} {g : Full} → Stops s j g x → x ≡ 0 → length s ≤ j
    by (over l) e = l
    by (unknown q) e = absurd (omega arith)
    by (broken q) e = absurd (omega arith)
    by (denied q t d) e = absurd (d e)

-- ---- begin

-- a begin answers 0, 2, 4 or 6
pub record Begins (n : ℕ) : Type 0 where
  pub one : (n ≡ 0) ⊎ ((n ≡ 2) ⊎ ((n ≡ 4) ⊎ (n ≡ 6)))

pub begin_answers : (n m : List ℕ) (x : Option Context) → Begins (begin_answer n m x)
unfolding begin_answer
begin_answers n m x = by (bad_context x) (ltb (free_nodes n 0) 2) (ltb (min (length m) 64) (first_modes x))
  where
    by : (a b c : Bool) → Begins (cond a 2 (cond b 4 (cond c 6 0)))
    by true b c = record { one = inr (inl refl) }
    by false true c = record { one = inr (inr (inl refl)) }
    by false false true = record { one = inr (inr (inr refl)) }
    by false false false = record { one = inl refl }

-- a begin that is refused keeps the record and what was lent
pub begin_refused : (st : State) (n m : List ℕ) (x : Option Context) → begin_answer n m x ≢ 0 → begin_of st n m x ≡ begun (begin_answer n m x) st n m
unfolding begin_of
begin_refused st n m x d = rw (ne_eqb (begin_answer n m x) 0 d)
