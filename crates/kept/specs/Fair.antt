-- Every call, on any bytes and in any state, has one of the answers below, and a call that is refused changes nothing.
-- Assumes nothing.
use Rattle.std.specs.Prelude.{ℕ, ◌-◌, ◌≤◌, ◌≡◌, refl, ◌≢◌, ◌⊎◌, Bool, true, false, cond, ◌&&◌, ◌||◌, List, eqb, None, Option, Some}
use Rattle.std.proofs.Common.{inl, inr, arith, not, ltb}
use Rattle.names.specs.Tag as tag
use Rattle.names.specs.Space as space
use Rattle.names.specs.Sets.{is_in, Formatting, ButtonScope, TableScope}
use Rattle.makers.specs.Make.{nodes_of}
use Rattle.lent.specs.Room.{free_nodes, free_pieces, free_pairs}
use Rattle.makers.specs.declared.make.Tag.{Tag}
use Rattle.places.specs.Places.{Places}
use Rattle.records.specs.declared.Record.{Record}
use Rattle.state.specs.Full.{Full, Result, refused, done}
use Rattle.standard.specs.declared.Place.{Place}
use Rattle.standard.specs.Place.{text_before}
use Rattle.standard.specs.Insertion.{usual_place, bad_tag, bad_pairs, element_done, element_room, inserted_element, joined_text, new_text, text_at, inserted_text, comment_at, inserted_comment}
use Rattle.standard.specs.Small.{room, marked, cleared, popped, fostered, headed, moded, unmoded}
use Rattle.standard.specs.Stack.{named, is_cell, in_scope, is_found, bad_implied, implied, closed_p, closed_cell, bad_end_tag, ended}
use Rattle.standard.specs.Formatting.{bad_formatting, created_room, created_for, created, anew_room, reconstructed}
use Rattle.standard.specs.Adoption.{entry_of, few_nodes, adoption, misnested_at, misnested}
use Rattle.standard.specs.Step.{unknown, middle_step, low_step, high_step, step}

-- the answer is 0, or from 2 to k
pub record Answer (k : ℕ) (n : ℕ) : Type 0 where
  pub one : (n ≡ 0) ⊎ ((2 ≤ n) × (n ≤ k))

-- the call has an answer, and is refused as a whole or done
pub record Fair (f : Full) (r : Result) : Type 0 where
  pub answers : Answer 8 r.answer
  pub keeps : r.answer ≢ 0 → r.after ≡ f

fair_yes : (f g : Full) → Fair f (done g)
fair_yes f g = record { answers = record { one = inl refl }; keeps = λ d. absurd (d refl) }

fair_or : {f : Full} (b : Bool) {x y : Result} → Fair f x → Fair f y → Fair f (cond b x y)
fair_or true p q = p
fair_or false p q = q

module _ (f : Full) where
  no : (k : ℕ) → 2 ≤ k → k ≤ 8 → Fair f (refused k f)
  no k a b = record { answers = record { one = inr (a, b) }; keeps = λ d. refl }

  fair_room : (t : Tag) (ps : List (ℕ × ℕ)) (push : Bool) → Fair f (element_room f t ps push)
  unfolding element_room
  fair_room t ps push =
      fair_or (ltb (free_nodes f.nodes.mem f.nodes.used) (nodes_of t)) (no 4 (omega arith) (omega arith))
      (fair_or (push && not (ltb f.stack.size 512)) (no 5 (omega arith) (omega arith))
      (fair_or (ltb (free_pairs f.pairs.mem f.pairs.used) t.count) (no 8 (omega arith) (omega arith)) (fair_yes f (element_done f t ps push))))

  fair_element : (s : List ℕ) (ns name flags from count : ℕ) → Fair f (inserted_element s f ns name flags from count)
  unfolding inserted_element
  fair_element s ns name flags from count =
      fair_or (bad_tag ns name flags || bad_pairs s from count) (no 2 (omega arith) (omega arith)) (fair_room _ _ _)

  fair_new : (p : Place) (number : ℕ) → Fair f (new_text f p number)
  unfolding new_text
  fair_new p number =
      fair_or (eqb (free_nodes f.nodes.mem f.nodes.used) 0) (no 4 (omega arith) (omega arith))
      (fair_or (eqb (free_pieces f.pieces.mem f.pieces.used) 0) (no 7 (omega arith) (omega arith)) (fair_yes f _))

  fair_joined : (n number : ℕ) → Fair f (joined_text f n number)
  unfolding joined_text
  fair_joined n number = fair_or (eqb (free_pieces f.pieces.mem f.pieces.used) 0) (no 7 (omega arith) (omega arith)) (fair_yes f _)

  fair_text : (number : ℕ) → Fair f (inserted_text f number)
  unfolding inserted_text text_at
  fair_text number = fair_or (eqb (text_before f.nodes.mem (usual_place f)) 0) (fair_new _ number) (fair_joined _ number)

  fair_comment : (place number : ℕ) → Fair f (inserted_comment f place number)
  unfolding inserted_comment comment_at
  fair_comment place number =
      fair_or (ltb 2 place) (no 2 (omega arith) (omega arith))
      (fair_or (eqb (free_nodes f.nodes.mem f.nodes.used) 0) (no 4 (omega arith) (omega arith)) (fair_yes f _))

  fair_created_room : (t : Tag) (ps : List (ℕ × ℕ)) (l : Places) → Fair f (created_room f t ps l)
  unfolding created_room
  fair_created_room t ps l =
      fair_or (ltb (free_nodes f.nodes.mem f.nodes.used) 1) (no 4 (omega arith) (omega arith))
      (fair_or (not (ltb f.stack.size 512)) (no 5 (omega arith) (omega arith))
      (fair_or (not (ltb l.size (room 256 l))) (no 6 (omega arith) (omega arith))
      (fair_or (ltb (free_pairs f.pairs.mem f.pairs.used) t.count) (no 8 (omega arith) (omega arith)) (fair_yes f _))))

  fair_created : (s : List ℕ) (name from count : ℕ) → Fair f (created s f name from count)
  unfolding created created_for
  fair_created s name from count = fair_or (bad_formatting s name from count) (no 2 (omega arith) (omega arith)) (fair_created_room _ _ _)

  fair_anew : (i k : ℕ) → Fair f (anew_room f i k)
  unfolding anew_room
  fair_anew i k =
      fair_or (ltb (free_nodes f.nodes.mem f.nodes.used) k) (no 4 (omega arith) (omega arith))
      (fair_or (ltb (512 - f.stack.size) k) (no 5 (omega arith) (omega arith)) (fair_yes f _))

  fair_reconstructed : Fair f (reconstructed f)
  unfolding reconstructed
  fair_reconstructed = fair_anew _ _

  fair_marked : Fair f (marked f)
  unfolding marked
  fair_marked = fair_or (ltb f.list.size (room 256 f.list)) (fair_yes f _) (no 6 (omega arith) (omega arith))

  fair_cleared : Fair f (cleared f)
  unfolding cleared
  fair_cleared = fair_yes f _

  fair_popped : Fair f (popped f)
  unfolding popped
  fair_popped = fair_or (ltb f.stack.size 2) (no 3 (omega arith) (omega arith)) (fair_yes f _)

  fair_fostered : (on : ℕ) → Fair f (fostered f on)
  unfolding fostered
  fair_fostered on = fair_or (ltb 1 on) (no 2 (omega arith) (omega arith)) (fair_yes f _)

  fair_headed : (on : ℕ) → Fair f (headed f on)
  unfolding headed
  fair_headed on = fair_or (ltb 1 on) (no 2 (omega arith) (omega arith)) (fair_yes f _)

  fair_moded : (v : ℕ) → Fair f (moded f v)
  unfolding moded
  fair_moded v =
      fair_or (eqb v 0 || ltb 21 v) (no 2 (omega arith) (omega arith))
      (fair_or (ltb f.modes.size (room 64 f.modes)) (fair_yes f _) (no 6 (omega arith) (omega arith)))

  fair_unmoded : Fair f (unmoded f)
  unfolding unmoded
  fair_unmoded = fair_or (ltb 0 f.modes.size) (fair_yes f _) (no 3 (omega arith) (omega arith))

  fair_adoption : (name : ℕ) → Fair f (adoption f name)
  unfolding adoption
  fair_adoption name =
      fair_or (not (is_in Formatting space.html name)) (no 2 (omega arith) (omega arith)) (fair_or (few_nodes f) (no 4 (omega arith) (omega arith)) (fair_yes f _))

  fair_misnested : Fair f (misnested f)
  unfolding misnested misnested_at
  fair_misnested = by (entry_of f.nodes.mem f.list tag.a)
    where
      by : (o : Option ℕ) → Fair f (misnested_at o f)
      by None = fair_yes f f
      by (Some j) = fair_or (few_nodes f) (no 4 (omega arith) (omega arith)) (fair_yes f _)

  fair_ended : (name : ℕ) → Fair f (ended f name)
  unfolding ended
  fair_ended name = fair_or (bad_end_tag name) (no 2 (omega arith) (omega arith)) (fair_yes f _)

  fair_closed_p : Fair f (closed_p f)
  unfolding closed_p
  fair_closed_p = fair_or (is_found (in_scope ButtonScope (named f.nodes.mem tag.p) f.nodes.mem f.stack)) (fair_yes f _) (no 3 (omega arith) (omega arith))

  fair_closed_cell : Fair f (closed_cell f)
  unfolding closed_cell cleared
  fair_closed_cell = fair_or (is_found (in_scope TableScope (is_cell f.nodes.mem) f.nodes.mem f.stack)) (fair_yes f _) (no 3 (omega arith) (omega arith))

  fair_implied : (kind except : ℕ) → Fair f (implied f kind except)
  unfolding implied
  fair_implied kind except = fair_or (bad_implied kind except) (no 2 (omega arith) (omega arith)) (fair_yes f _)

  fair_unknown : Fair f (unknown f)
  unfolding unknown
  fair_unknown = no 2 (omega arith) (omega arith)

  fair_middle : (r : Record) → Fair f (middle_step r f)
  unfolding middle_step
  fair_middle r =
      fair_or (eqb r.call 8) (fair_adoption r.a)
      (fair_or (eqb r.call 9) fair_misnested
      (fair_or (eqb r.call 10) (fair_ended r.a)
      (fair_or (eqb r.call 11) fair_closed_p
      (fair_or (eqb r.call 12) fair_closed_cell
      (fair_or (eqb r.call 13) (fair_implied r.a r.b) fair_unknown)))))

  fair_low : (s : List ℕ) (r : Record) → Fair f (low_step s r f)
  unfolding low_step
  fair_low s r =
      fair_or (eqb r.call 1) (fair_element s r.a r.b r.c r.from r.count)
      (fair_or (eqb r.call 2) (fair_text r.a)
      (fair_or (eqb r.call 3) (fair_comment r.a r.b)
      (fair_or (eqb r.call 4) (fair_created s r.a r.from r.count)
      (fair_or (eqb r.call 5) fair_marked
      (fair_or (eqb r.call 6) fair_cleared
      (fair_or (eqb r.call 7) fair_reconstructed (fair_middle r)))))))

  fair_high : (r : Record) → Fair f (high_step r f)
  unfolding high_step
  fair_high r =
      fair_or (eqb r.call 14) fair_popped
      (fair_or (eqb r.call 15) (fair_fostered r.a)
      (fair_or (eqb r.call 16) (fair_moded r.a)
      (fair_or (eqb r.call 17) fair_unmoded
      (fair_or (eqb r.call 18) (fair_headed r.a) fair_unknown))))

  pub step_fair : (s : List ℕ) (r : Record) → Fair f (step s r f)
  unfolding step
  step_fair s r = fair_or (ltb r.call 14) (fair_low s r) (fair_high r)

-- ---- the calls that pop: the answers of each

-- the answer is 0 or k, and no other
pub record Either (k n : ℕ) : Type 0 where
  pub one : (n ≡ 0) ⊎ (n ≡ k)

-- refused with k, or done
no_or : {k : ℕ} (b : Bool) (f g : Full) → Either k (cond b (refused k f) (done g)).answer
no_or true f g = record { one = inr refl }
no_or false f g = record { one = inl refl }

-- done, or refused with k
or_no : {k : ℕ} (b : Bool) (f g : Full) → Either k (cond b (done g) (refused k f)).answer
or_no true f g = record { one = inl refl }
or_no false f g = record { one = inr refl }

module _ (f : Full) where
  pub ended_answers : (name : ℕ) → Either 2 (ended f name).answer
  unfolding ended
  ended_answers name = no_or (bad_end_tag name) f _

  pub closed_p_answers : Either 3 (closed_p f).answer
  unfolding closed_p
  closed_p_answers = or_no (is_found (in_scope ButtonScope (named f.nodes.mem tag.p) f.nodes.mem f.stack)) f _

  pub closed_cell_answers : Either 3 (closed_cell f).answer
  unfolding closed_cell cleared
  closed_cell_answers = or_no (is_found (in_scope TableScope (is_cell f.nodes.mem) f.nodes.mem f.stack)) f _

  pub implied_answers : (kind except : ℕ) → Either 2 (implied f kind except).answer
  unfolding implied
  implied_answers kind except = no_or (bad_implied kind except) f _
