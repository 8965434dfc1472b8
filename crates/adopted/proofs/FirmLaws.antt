-- What the adoption agency relies on (`specs/Firm.antt`) holds after a round too, for one round less.
-- Assumes nothing.
use Rattle.std.proofs.Common.{ℕ, zero, suc, ◌+◌, ◌*◌, ◌≤◌, ◌<◌, ◌≡◌, refl, ◌⊎◌, inl, inr, Bool, true, false, cond, List, ◌++◌, arith, eqb, ltb, length, take, drop, length-append, length-take, length-drop, length-set, None, Option, Some}
use Rattle.names.specs.Sets.{DefaultScope, Special}
use Rattle.places.specs.Places.{Places, at, same, without, swapped, place_of, exchanged}
use Rattle.places.proofs.First.{first_from}
use Rattle.state.specs.Full.{Full, with_stack, with_list, with_nodes}
use Rattle.standard.specs.Small.{MARKER}
use Rattle.standard.specs.Stack.{is_of, in_scope}
use Rattle.standard.specs.Adoption.{entry_of, furthest_of, Inner, left_stack, left_both, renewed_in, renewed_at, turn_at, turned, inner, relisted, finished, started, adopted, block_at, blocked, scope_at, scoped, open_at, opened, entry_at, rounded}
use Rattle.adopted.specs.Firm.{Firm}
use Rattle.adopted.proofs.Position.{place_last, entry_lt}
use Rattle.adopted.proofs.Bound.{rounded_more}
use Rattle.adopted.proofs.Holds.{Holds, holds_more, holds_without, holds_swapped, holds_cut, holds_exchanged, holds_relisted, holds_ended}

-- ---- stack and list

-- an open element, where n nodes are used; and an entry of the list
abbrev pub Used : ℕ → ℕ → Type 0
Used n x = x ≤ n

abbrev pub Listed : ℕ → ℕ → Type 0
Listed n x = (x ≤ n) ⊎ (x ≡ MARKER)

pub record Held (s l : Places) (n : ℕ) : Type 0 where
  pub stack : Holds (Used n) s
  pub list : Holds (Listed n) l

pub firm_held : (s l : Places) (n k : ℕ) → Firm s l n k → Held s l n
firm_held s l n k f =
    record {
      stack = record { whole = f.stack; each = record { has = f.used } };
      list = record { whole = f.list; each = record { has = f.listed } };
    }

pub held_firm : (s l : Places) (n k : ℕ) → Held s l n → n + 4 * k ≤ 4096 → Firm s l n k
held_firm s l n k h r =
    record { stack = h.stack.whole; list = h.list.whole; used = h.stack.each.has; listed = h.list.each.has; room = r }

listed_more : (n m x : ℕ) → n ≤ m → Listed n x → Listed m x
listed_more n m x h (inl a) = inl (omega arith)
listed_more n m x h (inr e) = inr e

held_more : (s l : Places) (n m : ℕ) → n ≤ m → Held s l n → Held s l m
held_more s l n m h x =
    record { stack = holds_more (Used n) (Used m) s (λ y a. omega arith) x.stack; list = holds_more (Listed n) (Listed m) l (λ y. listed_more n m y h) x.list }

-- ---- 4.13

-- a walk that has the places of the stack before k still to meet
pub record Deep (w : Inner) (k : ℕ) : Type 0 where
  pub held : Held w.full.stack w.full.list w.full.nodes.used
  pub deep : k ≤ length w.full.stack.held

deep_test : (k : ℕ) (b : Bool) {x y : Inner} → Deep x k → Deep y k → Deep (cond b x y) k
deep_test k true g h = g
deep_test k false g h = h

deep_without : (xs : List ℕ) (i : ℕ) → i < length xs → i ≤ length (take i xs ++ drop (i + 1) xs)
deep_without xs i h = simp (length-append, length-take, length-drop) (omega arith)

pub turn_deep : (q : Option ℕ) (w : Inner) (block i c : ℕ) → place_of w.full.list (at w.full.stack i) ≡ q → Deep w (suc i) → Deep (turn_at q w block i c) i
unfolding turn_at left_stack left_both renewed_at renewed_in with_stack with_list with_nodes without swapped
turn_deep None w block i c e d =
    record {
      held = record { stack = holds_without (Used w.full.nodes.used) w.full.stack i d.deep d.held.stack; list = d.held.list };
      deep = deep_without w.full.stack.held i d.deep;
    }
turn_deep (Some j) w block i c e d =
    deep_test i (ltb 3 c)
    (record {
      held =
          record {
            stack = holds_without (Used n) w.full.stack i d.deep d.held.stack;
            list = holds_without (Listed n) w.full.list j (place_last w.full.list (at w.full.stack i) j e).below d.held.list;
          };
      deep = deep_without w.full.stack.held i d.deep;
    })
    (record {
      held =
          record {
            stack = holds_swapped (Used (n + 1)) w.full.stack i (n + 1) (omega arith) more.stack;
            list = holds_swapped (Listed (n + 1)) w.full.list j (n + 1) (inl (omega arith)) more.list;
          };
      deep = rw (length-set w.full.stack.held i (n + 1)) (omega (arith, d.deep));
    })
  where
    n : ℕ
    n = w.full.nodes.used

    more : Held w.full.stack w.full.list (w.full.nodes.used + 1)
    more = held_more w.full.stack w.full.list w.full.nodes.used (w.full.nodes.used + 1) (omega arith) d.held

inner_held : (k c : ℕ) (w : Inner) (fe block : ℕ) → Deep w k → Deep (inner w fe block c k) 0
unfolding inner turned
inner_held zero c w fe block d = d
inner_held (suc i) c w fe block d =
    deep_test 0 (eqb (at w.full.stack i) fe) (record { held = d.held; deep = omega arith })
    (inner_held i (c + 1) (turned w block i (c + 1)) fe block (turn_deep (place_of w.full.list (at w.full.stack i)) w block i (c + 1) refl d))

-- ---- a round

-- what holds for stack and list of a state
pub Kept : Full → Type 0
Kept f = Held f.stack f.list f.nodes.used

pub adopted_held : (f : Full) (fe s j b : ℕ) → b < length f.stack.held → Held f.stack f.list f.nodes.used
    → Held (adopted f fe s j b).stack (adopted f fe s j b).list (adopted f fe s j b).nodes.used
unfolding adopted finished started with_stack with_list with_nodes
adopted_held f fe s j b h x =
    by (inner (started f (at f.stack b) j) fe (at f.stack b) 0 b)
    (inner_held b 0 (started f (at f.stack b) j) fe (at f.stack b) (record { held = x; deep = omega arith })).held
  where
    by : (w : Inner) → Held w.full.stack w.full.list w.full.nodes.used
        → Held (exchanged w.full.stack fe (at f.stack b) (w.full.nodes.used + 1)) (relisted w.mark w.full.list fe (w.full.nodes.used + 1)) (w.full.nodes.used + 1)
    by w x =
        let n = w.full.nodes.used in
        let m = held_more w.full.stack w.full.list n (n + 1) (omega arith) x in
        record {
          stack = holds_exchanged (Used (n + 1)) w.full.stack fe (at f.stack b) (n + 1) (omega arith) m.stack;
          list = holds_relisted (Listed (n + 1)) w.full.list w.mark fe (n + 1) (inl (omega arith)) m.list;
        }

-- 4.7: what is found is in the stack
pub furthest_lt : (m : List ℕ) (stack : Places) (s b : ℕ) → furthest_of m stack s ≡ Some b → b < length stack.held
unfolding furthest_of
furthest_lt m stack s b e = (first_from (is_of Special m) stack.held (s + 1) b e).below

block_held : (q : Option ℕ) (f : Full) (fe s j : ℕ) → furthest_of f.nodes.mem f.stack s ≡ q → s < length f.stack.held → j < length f.list.held
    → Kept f → Kept (block_at q f fe s j).after
unfolding Kept block_at with_stack with_list
block_held None f fe s j e h g x =
    record { stack = holds_cut (Used f.nodes.used) f.stack s (omega arith) x.stack; list = holds_without (Listed f.nodes.used) f.list j g x.list }
block_held (Some b) f fe s j e h g x = adopted_held f fe s j b (furthest_lt f.nodes.mem f.stack s b e) x

scope_held : (q : Option ℕ) (f : Full) (fe s j : ℕ) → s < length f.stack.held → j < length f.list.held → Kept f → Kept (scope_at q f fe s j).after
unfolding scope_at blocked
scope_held None f fe s j h g x = x
scope_held (Some k) f fe s j h g x = block_held (furthest_of f.nodes.mem f.stack s) f fe s j refl h g x

open_held : (q : Option ℕ) (f : Full) (fe j : ℕ) → place_of f.stack fe ≡ q → j < length f.list.held → Kept f → Kept (open_at q f fe j).after
unfolding Kept open_at scoped with_list
open_held None f fe j e g x = record { stack = x.stack; list = holds_without (Listed f.nodes.used) f.list j g x.list }
open_held (Some s) f fe j e g x = scope_held (in_scope DefaultScope (same fe) f.nodes.mem f.stack) f fe s j (place_last f.stack fe s e).below g x

entry_held : (q : Option ℕ) (f : Full) (name : ℕ) → entry_of f.nodes.mem f.list name ≡ q → Kept f → Kept (entry_at q f name).after
unfolding Kept entry_at opened with_stack
entry_held None f name e x = record { stack = holds_ended (Used f.nodes.used) f.nodes.mem f.stack name x.stack; list = x.list }
entry_held (Some j) f name e x = open_held (place_of f.stack (at f.list j)) f (at f.list j) j refl (entry_lt f.nodes.mem f.list name j e) x

pub firm_rounded : (f : Full) (name k : ℕ) → Firm f.stack f.list f.nodes.used (suc k)
    → Firm (rounded f name).after.stack (rounded f name).after.list (rounded f name).after.nodes.used k
unfolding rounded Kept
firm_rounded f name k x =
    held_firm _ _ _ k (entry_held (entry_of f.nodes.mem f.list name) f name refl (firm_held f.stack f.list f.nodes.used (suc k) x))
    (omega (arith, x.room, (rounded_more f name).most))
