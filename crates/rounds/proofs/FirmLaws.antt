-- What the agency relies on holds in each of its rounds, and its places are whole at the end.
-- Assumes nothing.
use Rattle.std.proofs.Common.{ℕ, zero, suc, ◌+◌, ◌-◌, ◌*◌, ◌<◌, ◌≤◌, ◌≡◌, sym, ◌∙◌, subst, Bool, true, false, cond, arith, sub-one, None, Option, Some}
use Rattle.std.proofs.lemmas.Bool.{ltb-false}
use Rattle.lent.specs.Mem.{slots}
use Rattle.lent.specs.Room.{free_nodes}
use Rattle.places.specs.Places.{Places, place_of}
use Rattle.state.specs.Full.{Full, with_stack}
use Rattle.standard.specs.Html.{is_html, current}
use Rattle.standard.specs.Stack.{shorter}
use Rattle.standard.specs.Adoption.{Turn, rounded, rounds, current_at, agency, few_nodes}
use Rattle.adopted.specs.Firm.{Firm}
use Rattle.rounds.specs.Turns.{turn_of}
use Rattle.adopted.proofs.FirmLaws.{Used, firm_held, held_firm, firm_rounded}
use Rattle.adopted.proofs.Holds.{holds_cut}

module _ {s l : Places} {c : ℕ} where
  firm_room : {k : ℕ} (j : ℕ) → c + 4 * j ≤ 4096 → Firm s l c k → Firm s l c j
  firm_room j h w = record { stack = w.stack; list = w.list; used = w.used; listed = w.listed; room = h }

  -- room for k rounds is room for fewer
  pub firm_fewer : (j k : ℕ) → j ≤ k → Firm s l c k → Firm s l c j
  firm_fewer j k h w = firm_room j (omega (arith, w.room)) w

-- where not few nodes are free, 32 at least, there is room for eight rounds
pub firm_free : (f : Full) {b : Bool} → b ≡ few_nodes f → b ≡ false → Firm f.stack f.list f.nodes.used 0 → Firm f.stack f.list f.nodes.used 8
unfolding few_nodes free_nodes slots
firm_free f eb e w = firm_room 8 (omega (arith, ltb-false _ _ (sym eb ∙ e), w.room)) w

firm_shorter : (s l : Places) (c k : ℕ) → Firm s l c k → Firm (shorter s) l c k
unfolding shorter
firm_shorter s l c k w =
    let h = firm_held s l c k w in
    held_firm _ l c k (record { stack = holds_cut (Used c) s (s.size - 1) (omega (arith, w.stack.all)) h.stack; list = h.list }) w.room

-- ---- from round to round

firm_after : (f : Full) (name k : ℕ) → 0 < k → Firm f.stack f.list f.nodes.used k → Firm (rounded f name).after.stack (rounded f name).after.list (rounded f name).after.nodes.used (k - 1)
firm_after f name zero h w = absurd (omega arith)
firm_after f name (suc k) h w = rw sub-one (firm_rounded f name k w)

pub firm_next : (f y : Full) (name k : ℕ) {b : Bool} → 0 < k → turn_of b y ≡ rounded f name → Firm f.stack f.list f.nodes.used k → Firm y.stack y.list y.nodes.used (k - 1)
firm_next f y name k h e w = subst (λ (t : Turn). Firm t.after.stack t.after.list t.after.nodes.used (k - 1)) (sym e) (firm_after f name k h w)

firm_rounds : (f : Full) (name k : ℕ) → Firm f.stack f.list f.nodes.used k → Firm (rounds f name k).stack (rounds f name k).list (rounds f name k).nodes.used 0
unfolding rounds
firm_rounds f name zero w = w
firm_rounds f name (suc k) w = by (rounded f name).again (firm_rounds (rounded f name).after name k (firm_rounded f name k w))
  where
    by : (b : Bool) → Firm (rounds (rounded f name).after name k).stack (rounds (rounded f name).after name k).list (rounds (rounded f name).after name k).nodes.used 0
        → Firm (cond b (rounds (rounded f name).after name k) (rounded f name).after).stack (cond b (rounds (rounded f name).after name k) (rounded f name).after).list (cond b (rounds (rounded f name).after name k) (rounded f name).after).nodes.used 0
    by true r = r
    by false r = firm_fewer 0 k (omega arith) (firm_rounded f name k w)

firm_current : (o : Option ℕ) (f : Full) (name : ℕ) → Firm f.stack f.list f.nodes.used 8 → Firm (current_at o f name).stack (current_at o f name).list (current_at o f name).nodes.used 0
unfolding current_at with_stack
firm_current None f name w = firm_fewer 0 8 (omega arith) (firm_shorter f.stack f.list f.nodes.used 8 w)
firm_current (Some j) f name w = firm_rounds f name 8 w

pub firm_agency : (f y : Full) (name : ℕ) → y ≡ agency f name → Firm f.stack f.list f.nodes.used 8 → Firm y.stack y.list y.nodes.used 0
unfolding agency
firm_agency f y name e w = rw e (by (is_html f.nodes.mem (current f.stack) name))
  where
    by : (b : Bool) → Firm (cond b (current_at (place_of f.list (current f.stack)) f name) (rounds f name 8)).stack (cond b (current_at (place_of f.list (current f.stack)) f name) (rounds f name 8)).list (cond b (current_at (place_of f.list (current f.stack)) f name) (rounds f name 8)).nodes.used 0
    by true = firm_current (place_of f.list (current f.stack)) f name w
    by false = firm_rounds f name 8 w
