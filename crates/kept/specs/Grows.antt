-- Nodes, pieces and pairs are not given back: no call, and no run, uses fewer of them after it than before it. Only a begin starts anew.
-- Assumes nothing.
use Rattle.std.specs.Prelude.{ℕ, zero, suc, ◌+◌, ◌-◌, ◌≤◌, ◌≡◌, Bool, cond, ◌&&◌, ◌||◌, List, length, eqb, None, Option, Some}
use Rattle.std.proofs.Common.{refl, true, false, not, arith, ltb, Ok, Err}
use Rattle.names.specs.Tag as tag
use Rattle.names.specs.Space as space
use Rattle.names.specs.Sets.{is_in, Formatting, DefaultScope, ButtonScope, TableScope}
use Rattle.makers.specs.Make.{nodes_of}
use Rattle.lent.specs.Room.{free_nodes, free_pieces, free_pairs}
use Rattle.makers.specs.declared.make.Tag.{Tag}
use Rattle.places.specs.Places.{at, same, place_of}
use Rattle.records.specs.declared.Record.{Record}
use Rattle.records.specs.Record.{item_at, Item}
use Rattle.state.specs.Full.{Full, Result, with_stack, with_list, with_modes, with_flags, with_nodes, with_pieces, with_pairs}
use Rattle.standard.specs.Html.{is_html, current}
use Rattle.standard.specs.Place.{text_before}
use Rattle.standard.specs.Pairs.{pairs_in}
use Rattle.standard.specs.Insertion.{usual_place, pushes, bad_tag, bad_pairs, new_tag, element_in, pushed_if, element_done, element_room, inserted_element, joined_text, new_text, text_at, inserted_text, comment_at, inserted_comment}
use Rattle.standard.specs.Small.{room, marked, cleared, popped, fostered, headed, moded, unmoded}
use Rattle.standard.specs.Stack.{named, is_cell, in_scope, is_found, bad_implied, implied, closed_p, closed_cell, bad_end_tag, ended}
use Rattle.standard.specs.Formatting.{bad_formatting, listed, created_room, created_for, created, anew_at, anew, anew_room, reconstructed}
use Rattle.standard.specs.Adoption.{entry_of, furthest_of, Inner, left_stack, left_both, renewed_in, renewed_at, turn_at, turned, inner, finished, started, adopted, block_at, blocked, scope_at, scoped, open_at, opened, entry_at, rounded, rounds, current_at, agency, few_nodes, adoption, leaves, misnested_at, misnested}
use Rattle.standard.specs.Step.{unknown, middle_step, low_step, high_step, step}
use Rattle.standard.specs.Run.{ran, unless_refused, on_item, run_for, run_from, run_of, on_single, single}

-- as many nodes, pieces and pairs at least are used in g as in f
pub record Grows (f g : Full) : Type 0 where
  pub nodes : f.nodes.used ≤ g.nodes.used
  pub pieces : f.pieces.used ≤ g.pieces.used
  pub pairs : f.pairs.used ≤ g.pairs.used

grows_same : (f : Full) → Grows f f
grows_same f = record { nodes = omega arith; pieces = omega arith; pairs = omega arith }

grows_on : {f g h : Full} → Grows f g → Grows g h → Grows f h
grows_on a b =
    record { nodes = omega (arith, a.nodes, b.nodes); pieces = omega (arith, a.pieces, b.pieces); pairs = omega (arith, a.pairs, b.pairs) }

-- one of two, by a test
grows_or : {f : Full} (b : Bool) {g h : Full} → Grows f g → Grows f h → Grows f (cond b g h)
grows_or true p q = p
grows_or false p q = q

done_or : {f : Full} (b : Bool) (x y : Result) → Grows f x.after → Grows f y.after → Grows f (cond b x y).after
done_or true x y p q = p
done_or false x y p q = q

inner_or : {f : Full} (b : Bool) (x y : Inner) → Grows f x.full → Grows f y.full → Grows f (cond b x y).full
inner_or true x y p q = p
inner_or false x y p q = q

-- ---- insertion

module _ (f : Full) where
  element_in_lem : (t : Tag) (ps : List (ℕ × ℕ)) → Grows f (element_in f t ps)
  unfolding element_in with_pairs with_nodes
  element_in_lem t ps = record { nodes = omega arith; pieces = omega arith; pairs = omega arith }

  element_grows : (t : Tag) (ps : List (ℕ × ℕ)) (push : Bool) → Grows f (element_done f t ps push)
  unfolding element_done pushed_if with_stack
  element_grows t ps false = element_in_lem t ps
  element_grows t ps true = let w = element_in_lem t ps in record { nodes = w.nodes; pieces = w.pieces; pairs = w.pairs }

  room_grows : (t : Tag) (ps : List (ℕ × ℕ)) (push : Bool) → Grows f (element_room f t ps push).after
  unfolding element_room
  room_grows t ps push =
      done_or (ltb (free_nodes f.nodes.mem f.nodes.used) (nodes_of t)) _ _ (grows_same f)
      (done_or (push && not (ltb f.stack.size 512)) _ _ (grows_same f)
      (done_or (ltb (free_pairs f.pairs.mem f.pairs.used) t.count) _ _ (grows_same f) (element_grows t ps push)))

  inserted_grows : (s : List ℕ) (ns name flags from count : ℕ) → Grows f (inserted_element s f ns name flags from count).after
  unfolding inserted_element
  inserted_grows s ns name flags from count =
      done_or (bad_tag ns name flags || bad_pairs s from count) _ _ (grows_same f) (room_grows (new_tag f ns name flags count) (pairs_in s from count) (pushes flags))

  text_grows : (number : ℕ) → Grows f (inserted_text f number).after
  unfolding inserted_text text_at new_text joined_text with_pieces with_nodes
  text_grows number =
      done_or (eqb (text_before f.nodes.mem (usual_place f)) 0) _ _
      (done_or (eqb (free_nodes f.nodes.mem f.nodes.used) 0) _ _ (grows_same f)
      (done_or (eqb (free_pieces f.pieces.mem f.pieces.used) 0) _ _ (grows_same f)
      (record { nodes = omega arith; pieces = omega arith; pairs = omega arith })))
      (done_or (eqb (free_pieces f.pieces.mem f.pieces.used) 0) _ _ (grows_same f)
      (record { nodes = omega arith; pieces = omega arith; pairs = omega arith }))

  comment_grows : (place number : ℕ) → Grows f (inserted_comment f place number).after
  unfolding inserted_comment comment_at with_nodes
  comment_grows place number =
      done_or (ltb 2 place) _ _ (grows_same f)
      (done_or (eqb (free_nodes f.nodes.mem f.nodes.used) 0) _ _ (grows_same f)
      (record { nodes = omega arith; pieces = omega arith; pairs = omega arith }))

  -- ---- the formatting list

  created_grows : (s : List ℕ) (name from count : ℕ) → Grows f (created s f name from count).after
  unfolding created created_for created_room listed with_list
  created_grows s name from count =
      done_or (bad_formatting s name from count) _ _ (grows_same f)
      (done_or (ltb (free_nodes f.nodes.mem f.nodes.used) 1) _ _ (grows_same f)
      (done_or (not (ltb f.stack.size 512)) _ _ (grows_same f)
      (done_or (not (ltb _ (room 256 _))) _ _ (grows_same f)
      (done_or (ltb (free_pairs f.pairs.mem f.pairs.used) _) _ _ (grows_same f)
      (let w = element_grows _ _ true in record { nodes = w.nodes; pieces = w.pieces; pairs = w.pairs })))))

  anew_at_lem : (i : ℕ) → Grows f (anew_at f i)
  unfolding anew_at with_list with_stack with_nodes
  anew_at_lem i = record { nodes = omega arith; pieces = omega arith; pairs = omega arith }

anew_grows : (k : ℕ) (f : Full) (i : ℕ) → Grows f (anew f i k)
unfolding anew
anew_grows zero f i = grows_same f
anew_grows (suc k) f i = grows_on (anew_at_lem f i) (anew_grows k (anew_at f i) (i + 1))

reconstructed_grows : (f : Full) → Grows f (reconstructed f).after
unfolding reconstructed anew_room
reconstructed_grows f =
    done_or (ltb (free_nodes f.nodes.mem f.nodes.used) _) _ _ (grows_same f)
    (done_or (ltb (512 - f.stack.size) _) _ _ (grows_same f) (anew_grows _ f _))

-- ---- places and flags alone

-- nothing but places and flags differ
stays : {f g : Full} → g.nodes ≡ f.nodes → g.pieces ≡ f.pieces → g.pairs ≡ f.pairs → Grows f g
stays {f} a b c = record { nodes = rw a (omega arith); pieces = rw b (omega arith); pairs = rw c (omega arith) }

module _ (f : Full) where
  marked_grows : Grows f (marked f).after
  unfolding marked with_list
  marked_grows = done_or (ltb f.list.size (room 256 f.list)) _ _ (stays refl refl refl) (grows_same f)

  cleared_grows : Grows f (cleared f).after
  unfolding cleared with_list
  cleared_grows = stays refl refl refl

  popped_grows : Grows f (popped f).after
  unfolding popped with_stack
  popped_grows = done_or (ltb f.stack.size 2) _ _ (grows_same f) (stays refl refl refl)

  fostered_grows : (on : ℕ) → Grows f (fostered f on).after
  unfolding fostered with_flags
  fostered_grows on = done_or (ltb 1 on) _ _ (grows_same f) (stays refl refl refl)

  headed_grows : (on : ℕ) → Grows f (headed f on).after
  unfolding headed with_flags
  headed_grows on = done_or (ltb 1 on) _ _ (grows_same f) (stays refl refl refl)

  moded_grows : (v : ℕ) → Grows f (moded f v).after
  unfolding moded with_modes
  moded_grows v =
      done_or (eqb v 0 || ltb 21 v) _ _ (grows_same f) (done_or (ltb f.modes.size (room 64 f.modes)) _ _ (stays refl refl refl) (grows_same f))

  unmoded_grows : Grows f (unmoded f).after
  unfolding unmoded with_modes
  unmoded_grows = done_or (ltb 0 f.modes.size) _ _ (stays refl refl refl) (grows_same f)

  ended_grows : (name : ℕ) → Grows f (ended f name).after
  unfolding ended with_stack
  ended_grows name = done_or (bad_end_tag name) _ _ (grows_same f) (stays refl refl refl)

  implied_grows : (kind except : ℕ) → Grows f (implied f kind except).after
  unfolding implied with_stack
  implied_grows kind except = done_or (bad_implied kind except) _ _ (grows_same f) (stays refl refl refl)

  closed_p_grows : Grows f (closed_p f).after
  unfolding closed_p with_stack
  closed_p_grows =
      done_or (is_found (in_scope ButtonScope (named f.nodes.mem tag.p) f.nodes.mem f.stack)) _ _ (stays refl refl refl) (grows_same f)

  closed_cell_grows : Grows f (closed_cell f).after
  unfolding closed_cell cleared with_stack with_list
  closed_cell_grows =
      done_or (is_found (in_scope TableScope (is_cell f.nodes.mem) f.nodes.mem f.stack)) _ _ (stays refl refl refl) (grows_same f)

-- ---- the adoption agency

turn_grows : (q : Option ℕ) (w : Inner) (block i c : ℕ) → Grows w.full (turn_at q w block i c).full
unfolding turn_at left_stack left_both renewed_at renewed_in with_stack with_list with_nodes
turn_grows None w block i c = stays refl refl refl
turn_grows (Some j) w block i c =
    inner_or (ltb 3 c) _ _ (stays refl refl refl) (record { nodes = omega arith; pieces = omega arith; pairs = omega arith })

inner_grows : (k c : ℕ) (w : Inner) (fe block : ℕ) → Grows w.full (inner w fe block c k).full
unfolding inner turned
inner_grows zero c w fe block = grows_same _
inner_grows (suc i) c w fe block =
    inner_or (eqb (at w.full.stack i) fe) _ _ (grows_same _)
    (grows_on (turn_grows (place_of w.full.list (at w.full.stack i)) w block i (c + 1)) (inner_grows i (c + 1) (turned w block i (c + 1)) fe block))

finished_grows : (w : Inner) (fe block ancestor : ℕ) → Grows w.full (finished w fe block ancestor)
unfolding finished with_stack with_list with_nodes
finished_grows w fe block ancestor = record { nodes = omega arith; pieces = omega arith; pairs = omega arith }

adopted_grows : (f : Full) (fe s j b : ℕ) → Grows f (adopted f fe s j b)
unfolding adopted started
adopted_grows f fe s j b = grows_on (inner_grows b 0 (started f (at f.stack b) j) fe (at f.stack b)) (finished_grows _ fe (at f.stack b) _)

block_grows : (q : Option ℕ) (f : Full) (fe s j : ℕ) → Grows f (block_at q f fe s j).after
unfolding block_at with_stack with_list
block_grows None f fe s j = stays refl refl refl
block_grows (Some b) f fe s j = adopted_grows f fe s j b

scope_grows : (q : Option ℕ) (f : Full) (fe s j : ℕ) → Grows f (scope_at q f fe s j).after
unfolding scope_at blocked
scope_grows None f fe s j = grows_same f
scope_grows (Some k) f fe s j = block_grows (furthest_of f.nodes.mem f.stack s) f fe s j

open_grows : (q : Option ℕ) (f : Full) (fe j : ℕ) → Grows f (open_at q f fe j).after
unfolding open_at scoped with_list
open_grows None f fe j = stays refl refl refl
open_grows (Some s) f fe j = scope_grows (in_scope DefaultScope (same fe) f.nodes.mem f.stack) f fe s j

entry_grows : (q : Option ℕ) (f : Full) (name : ℕ) → Grows f (entry_at q f name).after
unfolding entry_at opened with_stack
entry_grows None f name = stays refl refl refl
entry_grows (Some j) f name = open_grows (place_of f.stack (at f.list j)) f (at f.list j) j

rounded_grows : (f : Full) (name : ℕ) → Grows f (rounded f name).after
unfolding rounded
rounded_grows f name = entry_grows (entry_of f.nodes.mem f.list name) f name

rounds_grows : (k : ℕ) (f : Full) (name : ℕ) → Grows f (rounds f name k)
unfolding rounds
rounds_grows zero f name = grows_same f
rounds_grows (suc k) f name =
    grows_or (rounded f name).again (grows_on (rounded_grows f name) (rounds_grows k (rounded f name).after name)) (rounded_grows f name)

current_grows : (q : Option ℕ) (f : Full) (name : ℕ) → Grows f (current_at q f name)
unfolding current_at with_stack
current_grows None f name = stays refl refl refl
current_grows (Some j) f name = rounds_grows 8 f name

agency_grows : (f : Full) (name : ℕ) → Grows f (agency f name)
unfolding agency
agency_grows f name =
    grows_or (is_html f.nodes.mem (current f.stack) name) (current_grows (place_of f.list (current f.stack)) f name) (rounds_grows 8 f name)

adoption_grows : (f : Full) (name : ℕ) → Grows f (adoption f name).after
unfolding adoption
adoption_grows f name =
    done_or (not (is_in Formatting space.html name)) _ _ (grows_same f) (done_or (few_nodes f) _ _ (grows_same f) (agency_grows f name))

misnested_at_lem : (q : Option ℕ) (f : Full) → Grows f (misnested_at q f).after
unfolding misnested_at leaves with_stack with_list
misnested_at_lem None f = grows_same f
misnested_at_lem (Some j) f =
    done_or (few_nodes f) _ _ (grows_same f) (let w = agency_grows f tag.a in record { nodes = w.nodes; pieces = w.pieces; pairs = w.pairs })

misnested_grows : (f : Full) → Grows f (misnested f).after
unfolding misnested
misnested_grows f = misnested_at_lem (entry_of f.nodes.mem f.list tag.a) f

-- ---- by its number

module _ (f : Full) where
  unknown_grows : Grows f (unknown f).after
  unfolding unknown
  unknown_grows = grows_same f

  middle_grows : (r : Record) → Grows f (middle_step r f).after
  unfolding middle_step
  middle_grows r =
      done_or (eqb r.call 8) _ _ (adoption_grows f r.a)
      (done_or (eqb r.call 9) _ _ (misnested_grows f)
      (done_or (eqb r.call 10) _ _ (ended_grows f r.a)
      (done_or (eqb r.call 11) _ _ (closed_p_grows f)
      (done_or (eqb r.call 12) _ _ (closed_cell_grows f)
      (done_or (eqb r.call 13) _ _ (implied_grows f r.a r.b) unknown_grows)))))

  low_grows : (s : List ℕ) (r : Record) → Grows f (low_step s r f).after
  unfolding low_step
  low_grows s r =
      done_or (eqb r.call 1) _ _ (inserted_grows f s r.a r.b r.c r.from r.count)
      (done_or (eqb r.call 2) _ _ (text_grows f r.a)
      (done_or (eqb r.call 3) _ _ (comment_grows f r.a r.b)
      (done_or (eqb r.call 4) _ _ (created_grows f s r.a r.from r.count)
      (done_or (eqb r.call 5) _ _ (marked_grows f)
      (done_or (eqb r.call 6) _ _ (cleared_grows f)
      (done_or (eqb r.call 7) _ _ (reconstructed_grows f) (middle_grows r)))))))

  high_grows : (r : Record) → Grows f (high_step r f).after
  unfolding high_step
  high_grows r =
      done_or (eqb r.call 14) _ _ (popped_grows f)
      (done_or (eqb r.call 15) _ _ (fostered_grows f r.a)
      (done_or (eqb r.call 16) _ _ (moded_grows f r.a)
      (done_or (eqb r.call 17) _ _ (unmoded_grows f)
      (done_or (eqb r.call 18) _ _ (headed_grows f r.a) unknown_grows))))

  -- no call gives back a node, a piece or a pair
  pub never_given_back : (s : List ℕ) (r : Record) → Grows f (step s r f).after
  unfolding step
  never_given_back s r = done_or (ltb r.call 14) _ _ (low_grows s r) (high_grows r)

  -- ---- runs

  pub single_never_given_back : (s : List ℕ) → Grows f (single s f).after
  unfolding single on_single
  single_never_given_back s = by (item_at s 0)
    where
      by : (i : Item) → Grows f (on_single i s f).after
      by (Ok (r, next)) = never_given_back s r
      by (Err k) = grows_same f

run_grows : (k : ℕ) (s : List ℕ) (i n : ℕ) (f : Full) → Grows f (run_for k s i n f).after
unfolding run_for on_item unless_refused
run_grows zero s i n f = grows_same f
run_grows (suc k) s i n f = by (ltb i (length s)) (item_at s i) (λ next g. run_grows k s next (n + 1) g)
  where
    go : (next : ℕ) (r : Result) → Grows f r.after → ((g : Full) → Grows g (run_for k s next (n + 1) g).after) → (b : Bool)
        → Grows f (cond b (run_for k s next (n + 1) r.after) (ran r.answer n r.after)).after
    go next r w more true = grows_on w (more r.after)
    go next r w more false = w

    item : (j : Item) → ((next : ℕ) (g : Full) → Grows g (run_for k s next (n + 1) g).after)
        → Grows f (on_item j n f (λ (r : Record) (next : ℕ). unless_refused (step s r f) n (run_for k s next (n + 1)))).after
    item (Ok (r, next)) more = go next (step s r f) (never_given_back f s r) (more next) (eqb (step s r f).answer 0)
    item (Err k) more = grows_same f

    by : (b : Bool) (j : Item) → ((next : ℕ) (g : Full) → Grows g (run_for k s next (n + 1) g).after)
        → Grows f (cond b (on_item j n f (λ (r : Record) (next : ℕ). unless_refused (step s r f) n (run_for k s next (n + 1)))) (ran 0 n f)).after
    by true j more = item j more
    by false j more = grows_same f

-- nor does a run
pub runs_never_given_back : (s : List ℕ) (f : Full) → Grows f (run_of s f).after
unfolding run_of run_from
runs_never_given_back s f = run_grows (length s - 0) s 0 0 f
