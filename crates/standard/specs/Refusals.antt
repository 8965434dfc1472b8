-- When each call is refused: for each number of the answer table, whether it applies to the call. The answer is the lowest that does.
-- 1 and 9 are not here: they come before the call is looked at.
-- Assumes nothing.
use Rattle.std.specs.Prelude.{ℕ, zero, suc, ◌+◌, ◌-◌, Bool, true, false, cond, not, ◌&&◌, ◌||◌, List, eqb, ltb}
use Rattle.names.specs.Tag as tag
use Rattle.names.specs.Space as space
use Rattle.names.specs.Sets.{is_in, Formatting, ButtonScope, TableScope}
use Rattle.lent.specs.Room.{free_nodes, free_pieces, free_pairs}
use Rattle.makers.specs.Make.{nodes_of}
use Rattle.places.specs.Places.{Places}
use Rattle.records.specs.declared.Record.{Record}
use Rattle.state.specs.Full.{Full}
use Rattle.standard.specs.Place.{text_before}
use Rattle.standard.specs.Pairs.{pairs_in}
use Rattle.standard.specs.Insertion.{usual_place, pushes, bad_tag, bad_pairs, new_tag}
use Rattle.standard.specs.Small.{room}
use Rattle.standard.specs.Stack.{named, is_cell, in_scope, is_found, bad_end_tag, bad_implied}
use Rattle.standard.specs.Formatting.{first_lost, spared, bad_formatting}
use Rattle.standard.specs.Adoption.{entry_of, few_nodes}

pub record Refusals : Type 0 where
  -- 2: unknown call, name, namespace, mode, kind or flag, a name the call does not take, bad attributes
  pub unknown : Bool
  -- 3: nothing to act on
  pub nothing : Bool
  -- 4: too few free nodes
  pub nodes : Bool
  -- 5: the stack is full
  pub stack : Bool
  -- 6: the formatting list or the template modes are full
  pub entries : Bool
  -- 7: the text pieces are full
  pub pieces : Bool
  -- 8: the attribute pairs are full
  pub pairs : Bool

abbrev pub refusals : Bool → Bool → Bool → Bool → Bool → Bool → Bool → Refusals
refusals u n d s e p q = record { unknown = u; nothing = n; nodes = d; stack = s; entries = e; pieces = p; pairs = q }

-- whether number k applies
unfoldable pub applies : Refusals → ℕ → Bool
applies r k =
    cond (eqb k 2) r.unknown
    (cond (eqb k 3) r.nothing
    (cond (eqb k 4) r.nodes
    (cond (eqb k 5) r.stack
    (cond (eqb k 6) r.entries
    (cond (eqb k 7) r.pieces
    (cond (eqb k 8) r.pairs false))))))

-- the least of n numbers from k on that has p, 0 if none has
unfoldable pub least : (ℕ → Bool) → ℕ → ℕ → ℕ
least p k zero = 0
least p k (suc n) = cond (p k) k (least p (k + 1) n)

-- the lowest of 2 to 8 that applies, 0 if none does
unfoldable pub lowest : Refusals → ℕ
lowest r = least (applies r) 2 7

-- ---- call by call; f is the state, s the input that holds the record

module _ (f : Full) where
  -- fewer than k nodes are free
  unfoldable pub no_nodes : ℕ → Bool
  no_nodes k = ltb (free_nodes f.nodes.mem f.nodes.used) k

  unfoldable pub no_pieces : Bool
  no_pieces = eqb (free_pieces f.pieces.mem f.pieces.used) 0

  -- fewer than k pairs are free
  unfoldable pub no_pairs : ℕ → Bool
  no_pairs k = ltb (free_pairs f.pairs.mem f.pairs.used) k

  unfoldable pub full_stack : Bool
  full_stack = not (ltb f.stack.size 512)

-- all places that may be used are in use
unfoldable pub full_places : ℕ → Places → Bool
full_places most l = not (ltb l.size (room most l))

unfoldable pub element_refusals : List ℕ → Full → Record → Refusals
element_refusals s f r =
    refusals (bad_tag r.a r.b r.c || bad_pairs s r.from r.count) false
    (no_nodes f (nodes_of (new_tag f r.a r.b r.c r.count))) (pushes r.c && full_stack f) false false (no_pairs f r.count)

-- text that is joined takes no node
unfoldable pub text_refusals : Full → Refusals
text_refusals f =
    refusals false false (eqb (text_before f.nodes.mem (usual_place f)) 0 && no_nodes f 1) false false (no_pieces f) false

unfoldable pub comment_refusals : Full → Record → Refusals
comment_refusals f r = refusals (ltb 2 r.a) false (no_nodes f 1) false false false false

-- the place of an entry that goes counts as free
unfoldable pub create_refusals : List ℕ → Full → Record → Refusals
create_refusals s f r =
    refusals (bad_formatting s r.a r.from r.count) false (no_nodes f 1) (full_stack f)
    (full_places 256 (spared f (new_tag f space.html r.a 1 r.count) (pairs_in s r.from r.count))) false (no_pairs f r.count)

unfoldable pub marker_refusals : Full → Refusals
marker_refusals f = refusals false false false false (full_places 256 f.list) false false

-- as many nodes and stack places as entries are made anew
unfoldable pub reconstruct_refusals : Full → Refusals
reconstruct_refusals f =
    refusals false false (no_nodes f (f.list.size - first_lost f.stack f.list)) (ltb (512 - f.stack.size) (f.list.size - first_lost f.stack f.list))
    false false false

unfoldable pub adoption_refusals : Full → Record → Refusals
adoption_refusals f r = refusals (not (is_in Formatting space.html r.a)) false (few_nodes f) false false false false

-- without an `a` after the last marker nothing is done, and no node is needed
unfoldable pub misnested_refusals : Full → Refusals
misnested_refusals f = refusals false false (is_found (entry_of f.nodes.mem f.list tag.a) && few_nodes f) false false false false

-- 2 alone, and 3 alone
abbrev pub only_unknown : Bool → Refusals
only_unknown b = refusals b false false false false false false

abbrev pub only_nothing : Bool → Refusals
only_nothing b = refusals false b false false false false false

unfoldable pub close_p_refusals : Full → Refusals
close_p_refusals f = only_nothing (not (is_found (in_scope ButtonScope (named f.nodes.mem tag.p) f.nodes.mem f.stack)))

unfoldable pub close_cell_refusals : Full → Refusals
close_cell_refusals f = only_nothing (not (is_found (in_scope TableScope (is_cell f.nodes.mem) f.nodes.mem f.stack)))

unfoldable pub mode_refusals : Full → Record → Refusals
mode_refusals f r = refusals (eqb r.a 0 || ltb 21 r.a) false false false (full_places 64 f.modes) false false

-- ---- by number

unfoldable pub high_refusals : Full → Record → Refusals
high_refusals f r =
    cond (eqb r.call 14) (only_nothing (ltb f.stack.size 2))
    (cond (eqb r.call 15) (only_unknown (ltb 1 r.a))
    (cond (eqb r.call 16) (mode_refusals f r)
    (cond (eqb r.call 17) (only_nothing (not (ltb 0 f.modes.size)))
    (cond (eqb r.call 18) (only_unknown (ltb 1 r.a))
    (only_unknown true)))))

unfoldable pub middle_refusals : Full → Record → Refusals
middle_refusals f r =
    cond (eqb r.call 8) (adoption_refusals f r)
    (cond (eqb r.call 9) (misnested_refusals f)
    (cond (eqb r.call 10) (only_unknown (bad_end_tag r.a))
    (cond (eqb r.call 11) (close_p_refusals f)
    (cond (eqb r.call 12) (close_cell_refusals f)
    (cond (eqb r.call 13) (only_unknown (bad_implied r.a r.b))
    (only_unknown true))))))

unfoldable pub low_refusals : List ℕ → Full → Record → Refusals
low_refusals s f r =
    cond (eqb r.call 1) (element_refusals s f r)
    (cond (eqb r.call 2) (text_refusals f)
    (cond (eqb r.call 3) (comment_refusals f r)
    (cond (eqb r.call 4) (create_refusals s f r)
    (cond (eqb r.call 5) (marker_refusals f)
    (cond (eqb r.call 6) (only_unknown false)
    (cond (eqb r.call 7) (reconstruct_refusals f)
    (middle_refusals f r)))))))

unfoldable pub refusals_of : List ℕ → Record → Full → Refusals
refusals_of s r f = cond (ltb r.call 14) (low_refusals s f r) (high_refusals f r)
