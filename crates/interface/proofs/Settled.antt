-- Every single call that a host can make, on any record and any lent memory: answer 1 exactly if the state is not sound; else what
-- `never_sticks` says of the call, 2 for a call that is not known and 9 for a record that is cut short or badly written.
-- Assumes nothing.
use Rattle.std.proofs.Common.{◌≡◌, refl, ap, sym, ◌∙◌, ◌≢◌, ◌⊎◌, inl, inr, Bool, true, false, cond, ℕ, ◌≤◌, arith, Ok, Err}
use Rattle.theory.specs.Says.{Says}
use Rattle.records.specs.declared.refusal.Refusal.{Refusal}
use Rattle.records.specs.declared.refusal.Refusal.TheVariants as refusal
use Rattle.records.specs.Refusal.{number_of}
use Rattle.records.proofs.Past.{item_told}
use Rattle.records.specs.Record.{item_at, Item}
use Rattle.state.specs.Full.{Full, Result, result_of, refused}
use Rattle.sound.specs.State.{SoundFull}
use Rattle.standard.specs.Step.{step}
use Rattle.standard.specs.Run.{on_single, single}
use Rattle.edge.specs.Public.{Checked}
use Rattle.queries.specs.Told.{Asked}
use Rattle.queries.specs.Told as told
use Rattle.interface.specs.Questions.{answer_of}
use Rattle.interface.specs.Calls.{question, Effect, effect, effect_of}
use Rattle.interface.specs.Edge.{Alone, by_record, by_question, asks, Allows, Meant, call, unknown, broken, item_means, means, SettledAs, AtEdge}
use Rattle.interface.proofs.Never.{never_sticks}

-- what is meant, as the definitions have it
unfoldable effect_as : Meant → Full → Effect
effect_as (call c) f = effect_of c f
effect_as unknown f = effect 2 0 f
effect_as broken f = effect 9 0 f

joined : {k k' v v' : ℕ} {f f' : Full} → k ≡ k' → v ≡ v' → f ≡ f' → effect k v f ≡ effect k' v' f'
joined a b c = cc

-- what the promise allows: that, or answer 1
allowed : (c : Alone) (f : Full) (o : Effect) → Allows c f o → Checked (SoundFull f) o (effect_as (means c) f) (effect 1 0 f)
unfolding means item_means single on_single effect_of effect_as
allowed (by_record s) f o w = record { ok = w.0.ok; says = w.0.says; is = by w.0.ok (item_at s 0) refl w.0.is }
  where
    same : (r : Result) → result_of o.answer o.after ≡ r → o ≡ effect r.answer 0 r.after
    same r e = joined (ap (λ (x : Result). x.answer) e) w.1 (ap (λ (x : Result). x.after) e)

    told : (k : Refusal) → (k ≡ refusal.Unknown) ⊎ (k ≡ refusal.BadRecord) → result_of o.answer o.after ≡ refused (number_of k) f → o ≡ effect_as (item_means (Err k) s) f
    told k (inl u) e = rw u (same (refused 2 f) (rw u at e))
    told k (inr u) e = rw u (same (refused 9 f) (rw u at e))

    by : (b : Bool) (i : Item) → item_at s 0 ≡ i → result_of o.answer o.after ≡ cond b (on_single i s f) (refused 1 f) → o ≡ cond b (effect_as (item_means i s) f) (effect 1 0 f)
    by true (Ok (r, next)) q e = same (step s r f) e
    by true (Err k) q e = told k (item_told s 0 q) e
    by false i q e = same (refused 1 f) e
allowed (by_question q) f o w = record { ok = w.0.ok; says = w.0.says; is = by w.0.ok w.0.is }
  where
    same : (r : Asked) → asks o.answer o.value ≡ r → o ≡ effect r.answer r.value f
    same r e = joined (ap (λ (x : Asked). x.answer) e) (ap (λ (x : Asked). x.value) e) w.1

    by : (b : Bool) → asks o.answer o.value ≡ cond b (answer_of q f) (told.refused 1) → o ≡ cond b (effect_of (question q) f) (effect 1 0 f)
    by true e = same (answer_of q f) e
    by false e = same (told.refused 1) e

-- on a sound state
settled_as : (m : Meant) (f : Full) → SoundFull f → SettledAs m f (effect_as m f)
unfolding effect_as
settled_as (call c) f ok = never_sticks c f ok
settled_as unknown f ok = refl
settled_as broken f ok = refl

module _ (f : Full) (o : Effect) where
  not_one : (m : Meant) → SettledAs m f o → o.answer ≢ 1
  not_one (call c) w e = by w.answers.one
    where
      by : (o.answer ≡ 0) ⊎ ((2 ≤ o.answer) × (o.answer ≤ 8)) → ⊥
      by (inl h) = omega arith
      by (inr h) = omega arith
  not_one unknown w e = let h : o.answer ≡ 2 = ap (λ (x : Effect). x.answer) w in omega arith
  not_one broken w e = let h : o.answer ≡ 9 = ap (λ (x : Effect). x.answer) w in omega arith

  kept_as : (m : Meant) → SettledAs m f o → o.answer ≢ 0 → o ≡ effect o.answer 0 f
  kept_as (call c) w d = w.kept d
  kept_as unknown w d = w ∙ ap (λ (k : ℕ). effect k 0 f) (ap (λ (x : Effect). x.answer) (sym w))
  kept_as broken w d = w ∙ ap (λ (k : ℕ). effect k 0 f) (ap (λ (x : Effect). x.answer) (sym w))

pub call_settled : (c : Alone) (f : Full) (o : Effect) → Allows c f o → AtEdge c f o
call_settled c f o w = let u = allowed c f o w in by u.ok u.says u.is
  where
    by : (b : Bool) → Says (SoundFull f) b → o ≡ cond b (effect_as (means c) f) (effect 1 0 f) → AtEdge c f o
    by true t e =
        let ok = t.good refl in
        let s : SettledAs (means c) f o = rw e (settled_as (means c) f ok) in
        record { unsound = λ n. absurd (n ok); one = λ h. absurd (not_one f o (means c) s h); kept = kept_as f o (means c) s; settled = λ p. s }
    by false t e =
        let n = t.bad refl in
        record {
          unsound = λ p. e;
          one = λ h. n;
          kept = λ d. e ∙ ap (λ (k : ℕ). effect k 0 f) (ap (λ (x : Effect). x.answer) (sym e));
          settled = λ p. absurd (n p);
        }
