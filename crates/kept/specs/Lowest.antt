-- New nodes, pieces and pairs take the lowest free numbers, in the order in which the standard makes them: a call that is done makes
-- the nodes after the used ones, the contents of an HTML `template` right after it; its piece is the one after the used pieces, and its
-- pairs are the ones after the used pairs, which are numbered from 0.
-- Assumes nothing.
use Rattle.std.proofs.Common.{ℕ, zero, suc, ◌+◌, ◌-◌, ◌≤◌, ◌<◌, ◌≡◌, refl, ap, ◌∙◌, length-set, get_or-set_same, get_or-set_other, eqb-true, true, false, not, arith, eqb}
use Rattle.std.specs.Prelude.{◌≢◌, Bool, cond, ◌&&◌, ◌||◌, List, length, get_or, set, ltb}
use Rattle.std.proofs.lemmas.Bool.{eqb-false, not-false}
use Rattle.names.specs.Space as space
use Rattle.names.specs.Sets.{is_in, Formatting}
use Rattle.lent.specs.Mem.{NODES, PIECES, slots, inside, field, load, KIND, TIE, SPACE, NAME, START, COUNT, PIECE, END, ELEMENT, TEXT, COMMENT, CONTENTS}
use Rattle.lent.proofs.Kit.{reads}
use Rattle.lent.specs.Room.{free_nodes, free_pieces, free_pairs}
use Rattle.makers.specs.Make.{is_template, nodes_of, piece, piece_after}
use Rattle.makers.specs.declared.make.Tag.{Tag}
use Rattle.makers.proofs.Laws.{element_plain, element_template, nodes_one, nodes_two}
use Rattle.arena.proofs.Ancestors.{kind_free, tie_free}
use Rattle.makers.proofs.Pieces.{piece_text}
use Rattle.makers.proofs.Made.{comment_fields, text_fields}
use Rattle.places.specs.Places.{Places, swapped}
use Rattle.state.specs.Full.{Full, Result, refused, with_stack, with_list, with_nodes, with_pieces, with_pairs}
use Rattle.standard.specs.declared.Place.{Place}
use Rattle.standard.specs.Place.{text_before}
use Rattle.standard.specs.Pairs.{pairs_in}
use Rattle.standard.specs.Insertion.{usual_place, pushes, bad_tag, bad_pairs, new_tag, element_in, pushed_if, element_done, element_room, inserted_element, comment_place, comment_at, inserted_comment, new_text, joined_text, text_at, inserted_text}
use Rattle.standard.specs.Small.{room}
use Rattle.standard.specs.Formatting.{bad_formatting, listed, created_room, created_for, created, first_lost, anew_at, anew, anew_room, reconstructed}
use Rattle.names.proofs.Members.{formatting_plain}
use Rattle.kept.specs.Keeps.{or_false}
use Rattle.kept.specs.Room.{held_in, room_node, room_nodes, room_piece, fresh_next}
use Rattle.kept.specs.Attach.{attached_field, late_free}
use Rattle.kept.specs.Copy.{plain_has, single_name}
use Rattle.kept.specs.Template.{pair_tagged, pair_tied, pair_contents}

-- from f to g an element with the tag t is made
pub record NewElement (f g : Full) (t : Tag) : Type 0 where
  -- one node more is used, and two for an HTML `template`
  pub nodes : g.nodes.used ≡ f.nodes.used + nodes_of t
  -- the first of them is the element
  pub kind : field g.nodes.mem (f.nodes.used + 1) KIND ≡ ELEMENT
  pub space : field g.nodes.mem (f.nodes.used + 1) SPACE ≡ t.space
  pub name : field g.nodes.mem (f.nodes.used + 1) NAME ≡ t.name
  -- its pairs are the next ones, and so many more are used
  pub start : field g.nodes.mem (f.nodes.used + 1) START ≡ f.pairs.used
  pub count : field g.nodes.mem (f.nodes.used + 1) COUNT ≡ t.count
  pub pairs : g.pairs.used ≡ f.pairs.used + t.count
  -- the second is the contents
  pub contents : is_template t ≡ true
      → (field g.nodes.mem (f.nodes.used + 2) KIND ≡ CONTENTS)
      × (field g.nodes.mem (f.nodes.used + 1) TIE ≡ f.nodes.used + 2)
      × (field g.nodes.mem (f.nodes.used + 2) TIE ≡ f.nodes.used + 1)

-- from f to g one comment is made
pub record NewComment (f g : Full) (number : ℕ) : Type 0 where
  pub nodes : g.nodes.used ≡ f.nodes.used + 1
  pub kind : field g.nodes.mem (f.nodes.used + 1) KIND ≡ COMMENT
  pub name : field g.nodes.mem (f.nodes.used + 1) NAME ≡ number

-- from f to g one piece is made: of a new text node, where n is none, or else the last of the text node n
pub record NewPiece (f g : Full) (n number : ℕ) : Type 0 where
  pub pieces : g.pieces.used ≡ f.pieces.used + 1
  pub text : load PIECES g.pieces.mem (f.pieces.used + 1) 0 ≡ number
  pub joined : n ≢ 0 → g.nodes.used ≡ f.nodes.used
  pub last : n ≢ 0 → inside NODES f.nodes.mem n ≡ true → field g.nodes.mem n END ≡ f.pieces.used + 1
  pub nodes : n ≡ 0 → g.nodes.used ≡ f.nodes.used + 1
  pub kind : n ≡ 0 → field g.nodes.mem (f.nodes.used + 1) KIND ≡ TEXT
  pub piece : n ≡ 0 → field g.nodes.mem (f.nodes.used + 1) PIECE ≡ f.pieces.used + 1

-- the text number of a piece that comes after another
after_text : (p : List ℕ) (e i number : ℕ) → inside PIECES p i ≡ true → load PIECES (piece_after p e i number) i 0 ≡ number
unfolding piece_after piece
after_text p e i number h = simp (reads, h)

-- a call with a test is done where the test fails and the rest is done
record Passed (b : Bool) (k : ℕ) (f : Full) (x : Result) : Type 0 where
  test : b ≡ false
  rest : x.answer ≡ 0
  same : cond b (refused k f) x ≡ x

passed : (b : Bool) (k : ℕ) (f : Full) (x : Result) → 0 < k → (cond b (refused k f) x).answer ≡ 0 → Passed b k f x
passed true k f x h e = absurd (omega arith)
passed false k f x h e = record { test = refl; rest = e; same = refl }

module _ (f : Full) (t : Tag) (ps : List (ℕ × ℕ)) (first : t.start ≡ f.pairs.used) where
  plain_new : is_template t ≡ false → f.nodes.used + 1 < slots NODES f.nodes.mem → NewElement f (element_in f t ps) t
  unfolding element_in with_pairs with_nodes
  plain_new e h =
      let r = plain_has f.nodes.mem (f.nodes.used + 1) t h in
      rw (element_plain f.nodes.mem (f.nodes.used + 1) t e)
      (record {
        nodes = refl;
        kind = attached_field _ (usual_place f) _ _ KIND kind_free ∙ r.kind;
        space = attached_field _ (usual_place f) _ _ SPACE (late_free SPACE (omega arith) (omega arith)) ∙ r.space;
        name = attached_field _ (usual_place f) _ _ NAME (late_free NAME (omega arith) (omega arith)) ∙ r.name;
        start = attached_field _ (usual_place f) _ _ START (late_free START (omega arith) (omega arith)) ∙ r.start ∙ first;
        count = attached_field _ (usual_place f) _ _ COUNT (late_free COUNT (omega arith) (omega arith)) ∙ r.count;
        pairs = refl;
        contents = λ d. absurd (let z : ◌≡◌ {A = ℕ} 0 1 = cc in omega arith);
      })

  template_new : is_template t ≡ true → suc (f.nodes.used + 1) < slots NODES f.nodes.mem → NewElement f (element_in f t ps) t
  unfolding element_in with_pairs with_nodes
  template_new e h =
      let n = f.nodes.used + 1 in
      let two : f.nodes.used + 2 ≡ suc (f.nodes.used + 1) = omega arith in
      let r = pair_tagged f.nodes.mem n t h in
      let w = pair_tied f.nodes.mem n t h in
      rw (element_template f.nodes.mem n t e, fresh_next f.nodes.mem n (omega arith))
      (record {
        nodes = refl;
        kind = attached_field _ (usual_place f) _ _ KIND kind_free ∙ r.kind;
        space = attached_field _ (usual_place f) _ _ SPACE (late_free SPACE (omega arith) (omega arith)) ∙ r.space;
        name = attached_field _ (usual_place f) _ _ NAME (late_free NAME (omega arith) (omega arith)) ∙ r.name;
        start = attached_field _ (usual_place f) _ _ START (late_free START (omega arith) (omega arith)) ∙ r.start ∙ first;
        count = attached_field _ (usual_place f) _ _ COUNT (late_free COUNT (omega arith) (omega arith)) ∙ r.count;
        pairs = refl;
        contents =
            λ d. (
              rw two (attached_field _ (usual_place f) _ _ KIND kind_free ∙ pair_contents f.nodes.mem n t h),
              rw two (attached_field _ (usual_place f) _ _ TIE tie_free ∙ w.0),
              rw two (attached_field _ (usual_place f) _ _ TIE tie_free ∙ w.1),
            );
      })

  element_new : ltb (free_nodes f.nodes.mem f.nodes.used) (nodes_of t) ≡ false → NewElement f (element_in f t ps) t
  element_new h = by (is_template t) refl
    where
      by : (b : Bool) → is_template t ≡ b → NewElement f (element_in f t ps) t
      by true e =
          let n = nodes_two t e in
          template_new e (omega (arith, room_nodes f.nodes.mem f.nodes.used (nodes_of t) (omega arith) h))
      by false e =
          let n = nodes_one t e in
          plain_new e (omega (arith, room_nodes f.nodes.mem f.nodes.used (nodes_of t) (omega arith) h))

  done_new : (push : Bool) → NewElement f (element_in f t ps) t → NewElement f (element_done f t ps push) t
  unfolding element_done pushed_if with_stack
  done_new false w = w
  done_new true w =
      record {
        nodes = w.nodes;
        kind = w.kind;
        space = w.space;
        name = w.name;
        start = w.start;
        count = w.count;
        pairs = w.pairs;
        contents = w.contents;
      }

  room_new : (push : Bool) → (element_room f t ps push).answer ≡ 0 → NewElement f (element_room f t ps push).after t
  unfolding element_room
  room_new push e =
      let a = passed (ltb (free_nodes f.nodes.mem f.nodes.used) (nodes_of t)) 4 f _ (omega arith) e in
      let b = passed (push && not (ltb f.stack.size 512)) 5 f _ (omega arith) a.rest in
      let d = passed (ltb (free_pairs f.pairs.mem f.pairs.used) t.count) 8 f _ (omega arith) b.rest in
      rw (a.same, b.same, d.same) (done_new push (element_new a.test))

module _ (f : Full) where
  -- call 1: an element, its contents and its pairs
  pub element_lowest : (s : List ℕ) (ns name flags from count : ℕ) → (inserted_element s f ns name flags from count).answer ≡ 0
      → NewElement f (inserted_element s f ns name flags from count).after (new_tag f ns name flags count)
  unfolding inserted_element new_tag
  element_lowest s ns name flags from count e =
      let a = passed (bad_tag ns name flags || bad_pairs s from count) 2 f _ (omega arith) e in
      rw a.same (room_new f (new_tag f ns name flags count) (pairs_in s from count) refl (pushes flags) a.rest)

  listed_new : (t : Tag) (ps : List (ℕ × ℕ)) (l : Places) → NewElement f (element_done f t ps true) t
      → NewElement f (listed (element_done f t ps true) l (f.nodes.used + 1)) t
  unfolding listed with_list
  listed_new t ps l w =
      record {
        nodes = w.nodes;
        kind = w.kind;
        space = w.space;
        name = w.name;
        start = w.start;
        count = w.count;
        pairs = w.pairs;
        contents = w.contents;
      }

  created_new : (t : Tag) (ps : List (ℕ × ℕ)) (l : Places) → t.start ≡ f.pairs.used → is_template t ≡ false → (created_room f t ps l).answer ≡ 0 → NewElement f (created_room f t ps l).after t
  unfolding created_room
  created_new t ps l first single e =
      let a = passed (ltb (free_nodes f.nodes.mem f.nodes.used) 1) 4 f _ (omega arith) e in
      let b = passed (not (ltb f.stack.size 512)) 5 f _ (omega arith) a.rest in
      let c = passed (not (ltb l.size (room 256 l))) 6 f _ (omega arith) b.rest in
      let d = passed (ltb (free_pairs f.pairs.mem f.pairs.used) t.count) 8 f _ (omega arith) c.rest in
      rw (a.same, b.same, c.same, d.same) (listed_new t ps l (done_new f t ps first true (element_new f t ps first (rw (nodes_one t single) a.test))))

  -- call 4: an element, which comes into the list too
  pub create_lowest : (s : List ℕ) (name from count : ℕ) → (created s f name from count).answer ≡ 0
      → NewElement f (created s f name from count).after (new_tag f space.html name 1 count)
  unfolding created created_for bad_formatting new_tag is_template
  create_lowest s name from count e =
      let a = passed (not (is_in Formatting space.html name) || bad_pairs s from count) 2 f _ (omega arith) e in
      let b = or_false (not (is_in Formatting space.html name)) (bad_pairs s from count) a.test in
      let c = formatting_plain name (not-false _ b.0) in
      rw a.same (created_new (new_tag f space.html name 1 count) (pairs_in s from count) _ refl (single_name space.html name c.no_template) a.rest)

  -- call 3: a comment
  pub comment_lowest : (place number : ℕ) → (inserted_comment f place number).answer ≡ 0 → NewComment f (inserted_comment f place number).after number
  unfolding inserted_comment comment_at with_nodes
  comment_lowest place number e =
      let a = passed (ltb 2 place) 2 f _ (omega arith) e in
      let b = passed (eqb (free_nodes f.nodes.mem f.nodes.used) 0) 4 f _ (omega arith) a.rest in
      let n = f.nodes.used + 1 in
      let h = room_node f.nodes.mem f.nodes.used b.test in
      let r = comment_fields f.nodes.mem n (held_in NODES f.nodes.mem n (omega arith)) number in
      rw (a.same, b.same)
      (record {
        nodes = refl;
        kind = attached_field _ (comment_place f place) _ _ KIND kind_free ∙ r.kind;
        name = attached_field _ (comment_place f place) _ _ NAME (late_free NAME (omega arith) (omega arith)) ∙ r.name;
      })

  new_piece : (p : Place) (number : ℕ) → (new_text f p number).answer ≡ 0 → (n : ℕ) → n ≡ 0 → NewPiece f (new_text f p number).after n number
  unfolding new_text with_pieces with_nodes
  new_piece p number e n z =
      let a = passed (eqb (free_nodes f.nodes.mem f.nodes.used) 0) 4 f _ (omega arith) e in
      let b = passed (eqb (free_pieces f.pieces.mem f.pieces.used) 0) 7 f _ (omega arith) a.rest in
      let i = f.nodes.used + 1 in
      let h = room_node f.nodes.mem f.nodes.used a.test in
      let r = text_fields f.nodes.mem i (held_in NODES f.nodes.mem i (omega arith)) (f.pieces.used + 1) in
      rw (a.same, b.same)
      (record {
        pieces = refl;
        text = piece_text f.pieces.mem (f.pieces.used + 1) number (held_in PIECES f.pieces.mem (f.pieces.used + 1) (omega (arith, room_piece f.pieces.mem f.pieces.used b.test)));
        joined = λ d. absurd (d z);
        last = λ d. absurd (d z);
        nodes = λ d. refl;
        kind = λ d. attached_field _ p _ _ KIND kind_free ∙ r.kind;
        piece = λ d. attached_field _ p _ _ PIECE (late_free PIECE (omega arith) (omega arith)) ∙ r.piece;
      })

  joined_piece : (n number : ℕ) → (joined_text f n number).answer ≡ 0 → n ≢ 0 → NewPiece f (joined_text f n number).after n number
  unfolding joined_text with_pieces with_nodes
  joined_piece n number e z =
      let a = passed (eqb (free_pieces f.pieces.mem f.pieces.used) 0) 7 f _ (omega arith) e in
      rw a.same
      (record {
        pieces = refl;
        text = after_text f.pieces.mem (field f.nodes.mem n END) (f.pieces.used + 1) number (held_in PIECES f.pieces.mem (f.pieces.used + 1) (omega (arith, room_piece f.pieces.mem f.pieces.used a.test)));
        joined = λ d. refl;
        last = λ d i. simp (reads, i);
        nodes = λ d. absurd (z d);
        kind = λ d. absurd (z d);
        piece = λ d. absurd (z d);
      })

  -- call 2: a piece, and a text node unless there is one directly before the place
  pub text_lowest : (number : ℕ) → (inserted_text f number).answer ≡ 0
      → NewPiece f (inserted_text f number).after (text_before f.nodes.mem (usual_place f)) number
  unfolding inserted_text text_at
  text_lowest number = by (eqb (text_before f.nodes.mem (usual_place f)) 0) refl
    where
      by : (b : Bool) → eqb (text_before f.nodes.mem (usual_place f)) 0 ≡ b
          → (cond b (new_text f (usual_place f) number) (joined_text f (text_before f.nodes.mem (usual_place f)) number)).answer ≡ 0
          → NewPiece f (cond b (new_text f (usual_place f) number) (joined_text f (text_before f.nodes.mem (usual_place f)) number)).after (text_before f.nodes.mem (usual_place f)) number
      by true d e = new_piece (usual_place f) number e _ (eqb-true _ 0 d)
      by false d e = joined_piece _ number e (eqb-false _ 0 d)

-- ---- call 7: a copy of each entry that is made anew, in their order

module _ (f : Full) (i : ℕ) where
  anew_used : (anew_at f i).nodes.used ≡ f.nodes.used + 1
  unfolding anew_at with_list with_stack with_nodes
  anew_used = refl

  anew_held : (anew_at f i).list.held ≡ set f.list.held i (f.nodes.used + 1)
  unfolding anew_at with_list swapped
  anew_held = refl

-- as many more nodes are used as entries are made anew
pub anew_nodes : (k : ℕ) (f : Full) (i : ℕ) → (anew f i k).nodes.used ≡ f.nodes.used + k
unfolding anew
anew_nodes zero f i = omega arith
anew_nodes (suc k) f i = omega (arith, anew_nodes k (anew_at f i) (i + 1), anew_used f i)

-- the entries before the first stay
anew_before : (k : ℕ) (f : Full) (i j : ℕ) → j < i → get_or (anew f i k).list.held j 0 ≡ get_or f.list.held j 0
unfolding anew
anew_before zero f i j h = refl
anew_before (suc k) f i j h =
    anew_before k (anew_at f i) (i + 1) j (omega arith)
    ∙ ap (λ (xs : List ℕ). get_or xs j 0) (anew_held f i)
    ∙ get_or-set_other f.list.held i j (f.nodes.used + 1) 0 (λ e. omega arith)

-- of k entries from i on the first has the first number after the used ones, the second the next, and so on
pub anew_lowest : (k : ℕ) (f : Full) (i j : ℕ) → i + k ≤ length f.list.held → j < k → get_or (anew f i k).list.held (i + j) 0 ≡ f.nodes.used + 1 + j
unfolding anew
anew_lowest zero f i j h b = absurd (omega arith)
anew_lowest (suc k) f i zero h b =
    let z : i + 0 ≡ i = omega arith in
    let o : f.nodes.used + 1 + 0 ≡ f.nodes.used + 1 = omega arith in
    rw (z, o)
    (anew_before k (anew_at f i) (i + 1) i (omega arith)
    ∙ ap (λ (xs : List ℕ). get_or xs i 0) (anew_held f i)
    ∙ get_or-set_same f.list.held i (f.nodes.used + 1) 0 (omega arith))
anew_lowest (suc k) f i (suc j) h b =
    let z : i + suc j ≡ i + 1 + j = omega arith in
    let w : length (anew_at f i).list.held ≡ length f.list.held = ap length (anew_held f i) ∙ length-set f.list.held i (f.nodes.used + 1) in
    rw z (anew_lowest k (anew_at f i) (i + 1) j (omega arith) (omega arith) ∙ by (anew_used f i))
  where
    by : {n : ℕ} → n ≡ f.nodes.used + 1 → n + 1 + j ≡ f.nodes.used + 1 + suc j
    by e = omega arith

again : (f : Full) → (reconstructed f).answer ≡ 0
    → (reconstructed f).after ≡ anew f (first_lost f.stack f.list) (f.list.size - first_lost f.stack f.list)
unfolding reconstructed anew_room
again f e =
    let k = f.list.size - first_lost f.stack f.list in
    let a = passed (ltb (free_nodes f.nodes.mem f.nodes.used) k) 4 f _ (omega arith) e in
    let b = passed (ltb (512 - f.stack.size) k) 5 f _ (omega arith) a.rest in
    rw (a.same, b.same)

-- the call: k entries from i on, the last of the list, get the next k numbers in order
pub reconstruct_lowest : (f : Full) (i k : ℕ) → (reconstructed f).answer ≡ 0 → i ≡ first_lost f.stack f.list → k ≡ f.list.size - i
    → ((reconstructed f).after.nodes.used ≡ f.nodes.used + k)
    × ((j : ℕ) → i + k ≤ length f.list.held → j < k → get_or (reconstructed f).after.list.held (i + j) 0 ≡ f.nodes.used + 1 + j)
reconstruct_lowest f i k e a b =
    rw (again f e, ← a, ← b) (anew_nodes k f i, λ j h d. anew_lowest k f i j h d)
