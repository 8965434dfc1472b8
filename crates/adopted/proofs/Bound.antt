-- The adoption agency makes at most 32 nodes and gives up none: eight rounds, each of at most three in the inner loop and one after it.
-- Assumes nothing.
use Rattle.std.proofs.Common.{ℕ, zero, suc, ◌+◌, ◌-◌, ◌*◌, ◌≤◌, ◌≡◌, refl, Bool, true, false, cond, not, arith, eqb, ltb, ltb-false, None, Option, Some}
use Rattle.names.specs.Tag as tag
use Rattle.names.specs.Space as space
use Rattle.names.specs.Sets.{is_in, Formatting, DefaultScope}
use Rattle.places.specs.Places.{at, same, place_of}
use Rattle.state.specs.Full.{Full, Result, with_stack, with_list, with_nodes}
use Rattle.standard.specs.Html.{is_html, current}
use Rattle.standard.specs.Stack.{in_scope}
use Rattle.standard.specs.Adoption.{entry_of, furthest_of, Inner, left_stack, left_both, renewed_in, renewed_at, turn_at, turned, inner, finished, started, adopted, block_at, blocked, scope_at, scoped, open_at, opened, entry_at, rounded, rounds, current_at, agency, few_nodes, adoption, leaves, misnested_at, misnested}

-- from n nodes to m: at most k more
pub record More (n k m : ℕ) : Type 0 where
  pub least : n ≤ m
  pub most : m ≤ n + k

more_none : (n k : ℕ) → More n k n
more_none n k = record { least = omega arith; most = omega arith }

more_test : {A : Type 0} (used : A → ℕ) (n k : ℕ) (b : Bool) {x y : A} → (b ≡ true → More n k (used x)) → (b ≡ false → More n k (used y)) → More n k (used (cond b x y))
more_test used n k true g h = g refl
more_test used n k false g h = h refl

abbrev inner_used : Inner → ℕ
inner_used w = w.full.nodes.used

abbrev full_used : Full → ℕ
full_used f = f.nodes.used

abbrev result_used : Result → ℕ
result_used r = r.after.nodes.used

-- a turn, which counts c + 1: one node at most, and none past 3
pub turn_more : (q : Option ℕ) (w : Inner) (block i c : ℕ) → More w.full.nodes.used ((3 - c) - (3 - (c + 1))) (turn_at q w block i (c + 1)).full.nodes.used
unfolding turn_at left_stack left_both renewed_at renewed_in with_stack with_list with_nodes
turn_more None w block i c = more_none _ _
turn_more (Some j) w block i c =
    more_test inner_used w.full.nodes.used ((3 - c) - (3 - (c + 1))) (ltb 3 (c + 1))
    (λ e. more_none _ _)
    (λ e. record { least = omega arith; most = omega (arith, ltb-false 3 (c + 1) e) })

more_add : (n k a m b x : ℕ) → More n k m → More m a x → k + a ≤ b → More n b x
more_add n k a m b x g h le = record { least = omega (arith, g.least, h.least); most = omega (arith, g.most, h.most) }

pub inner_more : (k c : ℕ) (w : Inner) (fe block : ℕ) → More w.full.nodes.used (3 - c) (inner w fe block c k).full.nodes.used
unfolding inner turned
inner_more zero c w fe block = more_none _ _
inner_more (suc i) c w fe block =
    by (inner_more i (c + 1) (turned w block i (c + 1)) fe block) (turn_more (place_of w.full.list (at w.full.stack i)) w block i c)
  where
    by : More (turned w block i (c + 1)).full.nodes.used (3 - (c + 1)) (inner (turned w block i (c + 1)) fe block (c + 1) i).full.nodes.used
        → More w.full.nodes.used ((3 - c) - (3 - (c + 1))) (turned w block i (c + 1)).full.nodes.used
        → More w.full.nodes.used (3 - c) (cond (eqb (at w.full.stack i) fe) w (inner (turned w block i (c + 1)) fe block (c + 1) i)).full.nodes.used
    by h g = more_test inner_used _ _ (eqb (at w.full.stack i) fe) (λ e. more_none _ _) (λ e. more_add _ _ _ _ _ _ g h (omega arith))

pub adopted_more : (f : Full) (fe s j b : ℕ) → More f.nodes.used 4 (adopted f fe s j b).nodes.used
unfolding adopted finished started with_stack with_list with_nodes
adopted_more f fe s j b =
    more_add _ _ 1 _ _ _ (inner_more b 0 (started f (at f.stack b) j) fe (at f.stack b)) (record { least = omega arith; most = omega arith }) (omega arith)

-- ---- a round

block_more : (q : Option ℕ) (f : Full) (fe s j : ℕ) → More f.nodes.used 4 (block_at q f fe s j).after.nodes.used
unfolding block_at with_stack with_list
block_more None f fe s j = more_none _ _
block_more (Some b) f fe s j = adopted_more f fe s j b

scope_more : (q : Option ℕ) (f : Full) (fe s j : ℕ) → More f.nodes.used 4 (scope_at q f fe s j).after.nodes.used
unfolding scope_at blocked
scope_more None f fe s j = more_none _ _
scope_more (Some k) f fe s j = block_more (furthest_of f.nodes.mem f.stack s) f fe s j

open_more : (q : Option ℕ) (f : Full) (fe j : ℕ) → More f.nodes.used 4 (open_at q f fe j).after.nodes.used
unfolding open_at scoped with_list
open_more None f fe j = more_none _ _
open_more (Some s) f fe j = scope_more (in_scope DefaultScope (same fe) f.nodes.mem f.stack) f fe s j

entry_more : (q : Option ℕ) (f : Full) (name : ℕ) → More f.nodes.used 4 (entry_at q f name).after.nodes.used
unfolding entry_at opened with_stack
entry_more None f name = more_none _ _
entry_more (Some j) f name = open_more (place_of f.stack (at f.list j)) f (at f.list j) j

pub rounded_more : (f : Full) (name : ℕ) → More f.nodes.used 4 (rounded f name).after.nodes.used
unfolding rounded
rounded_more f name = entry_more (entry_of f.nodes.mem f.list name) f name

-- ---- the whole

pub rounds_more : (k : ℕ) (f : Full) (name : ℕ) → More f.nodes.used (4 * k) (rounds f name k).nodes.used
unfolding rounds
rounds_more zero f name = more_none _ _
rounds_more (suc k) f name = by (rounds_more k (rounded f name).after name)
  where
    by : More (rounded f name).after.nodes.used (4 * k) (rounds (rounded f name).after name k).nodes.used
        → More f.nodes.used (4 * suc k) (cond (rounded f name).again (rounds (rounded f name).after name k) (rounded f name).after).nodes.used
    by h =
        more_test full_used _ _ (rounded f name).again
        (λ e. more_add _ _ _ _ _ _ (rounded_more f name) h (omega arith))
        (λ e. more_add _ _ _ _ _ _ (rounded_more f name) (more_none _ 0) (omega arith))

current_more : (q : Option ℕ) (f : Full) (name : ℕ) → More f.nodes.used 32 (current_at q f name).nodes.used
unfolding current_at with_stack
current_more None f name = more_none _ _
current_more (Some j) f name = rounds_more 8 f name

pub agency_more : (f : Full) (name : ℕ) → More f.nodes.used 32 (agency f name).nodes.used
unfolding agency
agency_more f name =
    more_test full_used _ _ (is_html f.nodes.mem (current f.stack) name)
    (λ e. current_more (place_of f.list (current f.stack)) f name)
    (λ e. rounds_more 8 f name)

adoption_more : (f : Full) (name : ℕ) → More f.nodes.used 32 (adoption f name).after.nodes.used
unfolding adoption
adoption_more f name =
    more_test result_used _ _ (not (is_in Formatting space.html name)) (λ e. more_none _ _)
    (λ e. more_test result_used _ _ (few_nodes f) (λ d. more_none _ _) (λ d. agency_more f name))

misnested_at_lem : (q : Option ℕ) (f : Full) → More f.nodes.used 32 (misnested_at q f).after.nodes.used
unfolding misnested_at leaves with_stack with_list
misnested_at_lem None f = more_none _ _
misnested_at_lem (Some j) f = more_test result_used _ _ (few_nodes f) (λ d. more_none _ _) (λ d. agency_more f tag.a)

misnested_more : (f : Full) → More f.nodes.used 32 (misnested f).after.nodes.used
unfolding misnested
misnested_more f = misnested_at_lem (entry_of f.nodes.mem f.list tag.a) f

-- ---- the bounds, in full

both : {n k m : ℕ} → More n k m → (n ≤ m) × (m ≤ n + k)
both h = (h.least, h.most)

pub agency_nodes : (f : Full) (name : ℕ) → (f.nodes.used ≤ (agency f name).nodes.used) × ((agency f name).nodes.used ≤ f.nodes.used + 32)
agency_nodes f name = both (agency_more f name)

pub adoption_nodes : (f : Full) (name : ℕ) → (f.nodes.used ≤ (adoption f name).after.nodes.used) × ((adoption f name).after.nodes.used ≤ f.nodes.used + 32)
adoption_nodes f name = both (adoption_more f name)

pub misnested_nodes : (f : Full) → (f.nodes.used ≤ (misnested f).after.nodes.used) × ((misnested f).after.nodes.used ≤ f.nodes.used + 32)
misnested_nodes f = both (misnested_more f)
