-- Every call by its number, and so every run, keeps a sound state sound. What the calls rely on holds in a sound state.
-- Assumes nothing.
use Rattle.std.specs.Prelude.{ℕ, zero, suc, ◌+◌, ◌-◌, ◌≤◌, ◌<◌, ◌≡◌, ◌⊎◌, Bool, true, false, cond, List, get_or, eqb, ltb, Option}
use Rattle.std.proofs.Common.{inl, inr, length, Ok, Err}
use Rattle.std.proofs.Math.Decide.{ℕ_discrete}
use Rattle.places.proofs.Laws.{of_whole}
use Rattle.records.specs.declared.Record.{Record}
use Rattle.records.specs.Record.{item_at, Item}
use Rattle.state.specs.declared.Core.{Core}
use Rattle.state.specs.declared.Context.{Context}
use Rattle.state.specs.Full.{Full, Result, full}
use Rattle.state.specs.Ready.{Ready}
use Rattle.sound.specs.Sound.{Entries, MARKER}
use Rattle.sound.specs.State.{SoundFull}
use Rattle.standard.specs.Step.{unknown, middle_step, low_step, high_step, step}
use Rattle.standard.specs.Run.{ran, unless_refused, on_item, run_for, run_from, run_of, on_single, single}
use Rattle.kept.specs.Usual.{open_inside}
use Rattle.kept.specs.Small.{marked_sound, cleared_sound, popped_sound, fostered_sound, headed_sound, moded_sound, unmoded_sound}
use Rattle.kept.specs.Stack.{implied_sound, closed_p_sound, closed_cell_sound, ended_sound}
use Rattle.kept.specs.Agency.{adoption_sound, misnested_sound}
use Rattle.kept.specs.Insert.{inserted_comment_sound, inserted_text_sound}
use Rattle.kept.specs.Element.{inserted_element_sound}
use Rattle.kept.specs.Formatting.{created_sound}
use Rattle.kept.specs.Reconstruct.{reconstructed_sound}

-- either call leaves a sound state
both : (b : Bool) (x y : Result) → SoundFull x.after → SoundFull y.after → SoundFull (cond b x y).after
both true x y p q = p
both false x y p q = q

module _ (f : Full) (ok : SoundFull f) where
  unknown_sound : SoundFull (unknown f).after
  unfolding unknown
  unknown_sound = ok

  middle_sound : (r : Record) → SoundFull (middle_step r f).after
  unfolding middle_step
  middle_sound r =
      both (eqb r.call 8) _ _ (adoption_sound f ok r.a)
      (both (eqb r.call 9) _ _ (misnested_sound f ok)
      (both (eqb r.call 10) _ _ (ended_sound f ok r.a)
      (both (eqb r.call 11) _ _ (closed_p_sound f ok)
      (both (eqb r.call 12) _ _ (closed_cell_sound f ok)
      (both (eqb r.call 13) _ _ (implied_sound f ok r.a r.b) unknown_sound)))))

  low_sound : (s : List ℕ) (r : Record) → SoundFull (low_step s r f).after
  unfolding low_step
  low_sound s r =
      both (eqb r.call 1) _ _ (inserted_element_sound f ok s r.a r.b r.c r.from r.count)
      (both (eqb r.call 2) _ _ (inserted_text_sound f ok r.a)
      (both (eqb r.call 3) _ _ (inserted_comment_sound f ok r.a r.b)
      (both (eqb r.call 4) _ _ (created_sound f ok s r.a r.from r.count)
      (both (eqb r.call 5) _ _ (marked_sound f ok)
      (both (eqb r.call 6) _ _ (cleared_sound f ok)
      (both (eqb r.call 7) _ _ (reconstructed_sound f ok) (middle_sound r)))))))

  high_sound : (r : Record) → SoundFull (high_step r f).after
  unfolding high_step
  high_sound r =
      both (eqb r.call 14) _ _ (popped_sound f ok)
      (both (eqb r.call 15) _ _ (fostered_sound f ok r.a)
      (both (eqb r.call 16) _ _ (moded_sound f ok r.a)
      (both (eqb r.call 17) _ _ (unmoded_sound f ok)
      (both (eqb r.call 18) _ _ (headed_sound f ok r.a) unknown_sound))))

  pub step_sound : (s : List ℕ) (r : Record) → SoundFull (step s r f).after
  unfolding step
  step_sound s r = both (ltb r.call 14) _ _ (low_sound s r) (high_sound r)

  pub single_sound : (s : List ℕ) → SoundFull (single s f).after
  unfolding single on_single
  single_sound s = by (item_at s 0)
    where
      by : (i : Item) → SoundFull (on_single i s f).after
      by (Ok (r, next)) = step_sound s r
      by (Err k) = ok

-- ---- runs

pub run_sound : (k : ℕ) (s : List ℕ) (i n : ℕ) (f : Full) → SoundFull f → SoundFull (run_for k s i n f).after
unfolding run_for on_item unless_refused
run_sound zero s i n f ok = ok
run_sound (suc k) s i n f ok = by (ltb i (length s)) (item_at s i) (λ next g good. run_sound k s next (n + 1) g good)
  where
    go : (next : ℕ) (r : Result) → SoundFull r.after → ((g : Full) → SoundFull g → SoundFull (run_for k s next (n + 1) g).after) → (b : Bool)
        → SoundFull (cond b (run_for k s next (n + 1) r.after) (ran r.answer n r.after)).after
    go next r good more true = more r.after good
    go next r good more false = good

    item : (j : Item) → ((next : ℕ) (g : Full) → SoundFull g → SoundFull (run_for k s next (n + 1) g).after)
        → SoundFull (on_item j n f (λ (r : Record) (next : ℕ). unless_refused (step s r f) n (run_for k s next (n + 1)))).after
    item (Ok (r, next)) more = go next (step s r f) (step_sound f ok s r) (more next) (eqb (step s r f).answer 0)
    item (Err k) more = ok

    by : (b : Bool) (j : Item) → ((next : ℕ) (g : Full) → SoundFull g → SoundFull (run_for k s next (n + 1) g).after)
        → SoundFull (cond b (on_item j n f (λ (r : Record) (next : ℕ). unless_refused (step s r f) n (run_for k s next (n + 1)))) (ran 0 n f)).after
    by true j more = item j more
    by false j more = ok

pub runs_sound : (s : List ℕ) (f : Full) → SoundFull f → SoundFull (run_of s f).after
unfolding run_of run_from
runs_sound s f ok = run_sound (length s - 0) s 0 0 f ok

-- ---- what the calls rely on

-- an entry of a sound list is a used node or a marker
entry_used : {m l : List ℕ} {c k : ℕ} → Entries m c l k → (i : ℕ) → i < k → (get_or l i 0 ≤ c) ⊎ (get_or l i 0 ≡ MARKER)
entry_used {l = l} {c} e i b = by (ℕ_discrete (get_or l i 0) MARKER)
  where
    by : Dec (get_or l i 0 ≡ MARKER) → (get_or l i 0 ≤ c) ⊎ (get_or l i 0 ≡ MARKER)
    by (yes z) = inr z
    by (no z) = inl ((e.entry i b).used z).1

pub sound_ready : (f : Full) → SoundFull f → Ready f
sound_ready f ok =
    let t = ok.sound in
    record {
      some = t.tree.stack.some;
      deep = t.places.stack.0;
      places = rw ok.stack.all ok.places;
      stack = ok.stack;
      list = ok.list;
      modes = ok.modes;
      pairs = t.sizes.pairs.0;
      nodes = t.sizes.nodes.0;
      used = λ i b. (open_inside t i (rw ok.stack.all b)).used;
      listed = λ i b. entry_used t.entries i (rw ok.list.all b);
    }

pub sound_modes : (h n l m p q : List ℕ) (c : Core) (x : Option Context) → SoundFull (full h c x n l m p q) → c.counts.modes ≤ length m
sound_modes h n l m p q c x ok = of_whole m c.counts.modes ok.modes
