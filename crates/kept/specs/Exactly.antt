-- Every call's answer is the lowest number of the answer table that applies to it, and 0 if none does: each refusal exactly when
-- `Refusals` says so.
-- Assumes nothing.
use Rattle.std.proofs.Common.{ℕ, zero, suc, ◌+◌, ◌-◌, ◌<◌, ◌≤◌, ◌≡◌, refl, sym, ◌∙◌, eq-eqb, ne_eqb, lt-ltb, le-ltb, true, false, cond, arith, ltb}
use Rattle.std.specs.Prelude.{◌≢◌, Bool, not, ◌&&◌, ◌||◌, List, eqb, None, Option, Some, ℕ}
use Rattle.std.proofs.Math.Decide.{ℕ_discrete, dec_lt}
use Rattle.names.specs.Tag as tag
use Rattle.names.specs.Space as space
use Rattle.names.specs.Sets.{ButtonScope, TableScope}
use Rattle.lent.specs.Room.{free_nodes}
use Rattle.makers.specs.Make.{nodes_of}
use Rattle.places.specs.Places.{pushed, cut, place_of}
use Rattle.records.specs.declared.Record.{Record}
use Rattle.state.specs.Full.{Full, Result, refused, done, with_stack, with_list, with_modes}
use Rattle.standard.specs.Place.{text_before}
use Rattle.standard.specs.Pairs.{pairs_in}
use Rattle.standard.specs.Insertion.{usual_place, bad_tag, bad_pairs, new_tag, pushes, element_done, element_room, inserted_element, joined_text, new_text, text_at, inserted_text, comment_at, inserted_comment}
use Rattle.standard.specs.Small.{MARKER, room, cleared_at, marked, cleared, popped, fostered, headed, moded, unmoded}
use Rattle.standard.specs.Stack.{named, is_cell, in_scope, without_p, without_cell, is_found, ended, closed_p, closed_cell, implied}
use Rattle.standard.specs.Formatting.{bad_formatting, spared, listed, created_room, created_for, created, anew_room, reconstructed}
use Rattle.standard.specs.Adoption.{entry_of, few_nodes, adoption, misnested_at, misnested}
use Rattle.standard.specs.Step.{unknown, middle_step, low_step, high_step, step}
use Rattle.standard.specs.Refusals.{Refusals, refusals, applies, least, lowest, no_nodes, no_pieces, no_pairs, full_stack, full_places, element_refusals, text_refusals, comment_refusals, create_refusals, marker_refusals, reconstruct_refusals, adoption_refusals, misnested_refusals, only_unknown, close_p_refusals, close_cell_refusals, mode_refusals, high_refusals, middle_refusals, low_refusals, refusals_of}

-- ---- the lowest number that applies

module _ (p : ℕ → Bool) where
  -- what is found has p
  least_has : (n k : ℕ) → least p k n ≢ 0 → p (least p k n) ≡ true
  unfolding least
  least_has zero k d = absurd (d refl)
  least_has (suc n) k d = by (p k) refl (least_has n (k + 1)) d
    where
      by : (b : Bool) → p k ≡ b → (least p (k + 1) n ≢ 0 → p (least p (k + 1) n) ≡ true) → cond b k (least p (k + 1) n) ≢ 0 → p (cond b k (least p (k + 1) n)) ≡ true
      by true e r d = e
      by false e r d = r d

  -- and nothing lower has
  least_le : (n k j : ℕ) → 0 < k → k ≤ j → j < k + n → p j ≡ true → (0 < least p k n) × (least p k n ≤ j)
  unfolding least
  least_le zero k j z a b e = absurd (omega arith)
  least_le (suc n) k j z a b e = by (p k) refl (least_le n (k + 1) j (omega arith))
    where
      by : (d : Bool) → p k ≡ d → (k + 1 ≤ j → j < (k + 1) + n → p j ≡ true → (0 < least p (k + 1) n) × (least p (k + 1) n ≤ j))
          → (0 < cond d k (least p (k + 1) n)) × (cond d k (least p (k + 1) n) ≤ j)
      by true g r = (z, a)
      by false g r = r (next k j a g e) (omega arith) e
        where
          next : (k j : ℕ) → k ≤ j → p k ≡ false → p j ≡ true → k + 1 ≤ j
          next k j a g e = apart (ℕ_discrete k j)
            where
              apart : Dec (k ≡ j) → k + 1 ≤ j
              apart (yes y) = absurd (let w : ◌≡◌ {A = Bool} true false = sym e ∙ rw (← y) g in let v : ◌≡◌ {A = ℕ} 0 1 = cc in omega arith)
              apart (no y) = omega arith

module _ (r : Refusals) where
  -- the lowest number that applies does
  pub lowest_applies : lowest r ≢ 0 → applies r (lowest r) ≡ true
  unfolding lowest
  lowest_applies d = least_has (applies r) 7 2 d

  -- and no lower one does
  pub lowest_least : (k : ℕ) → 2 ≤ k → k ≤ 8 → applies r k ≡ true → (0 < lowest r) × (lowest r ≤ k)
  unfolding lowest
  lowest_least k a b e = least_le (applies r) 7 2 k (omega arith) a (omega arith) e

-- ---- calls of one shape

module _ (f g : Full) where
  chain_2 : (a : Bool) → (cond a (refused 2 f) (done g)).answer ≡ lowest (refusals a false false false false false false)
  unfolding lowest least applies
  chain_2 true = refl
  chain_2 false = refl

  chain_3 : (a : Bool) → (cond a (refused 3 f) (done g)).answer ≡ lowest (refusals false a false false false false false)
  unfolding lowest least applies
  chain_3 true = refl
  chain_3 false = refl

  -- done, or refused with 3
  other_3 : (a : Bool) → (cond a (done g) (refused 3 f)).answer ≡ lowest (refusals false (not a) false false false false false)
  unfolding lowest least applies
  other_3 true = refl
  other_3 false = refl

  chain_24 : (a b : Bool) → (cond a (refused 2 f) (cond b (refused 4 f) (done g))).answer ≡ lowest (refusals a false b false false false false)
  unfolding lowest least applies
  chain_24 true b = refl
  chain_24 false true = refl
  chain_24 false false = refl

  -- done, or refused with 6
  other_6 : (a : Bool) → (cond a (done g) (refused 6 f)).answer ≡ lowest (refusals false false false false (not a) false false)
  unfolding lowest least applies
  other_6 true = refl
  other_6 false = refl

  chain_26 : (a b : Bool) → (cond a (refused 2 f) (cond b (done g) (refused 6 f))).answer ≡ lowest (refusals a false false false (not b) false false)
  unfolding lowest least applies
  chain_26 true b = refl
  chain_26 false true = refl
  chain_26 false false = refl

  chain_45 : (a b : Bool) → (cond a (refused 4 f) (cond b (refused 5 f) (done g))).answer ≡ lowest (refusals false false a b false false false)
  unfolding lowest least applies
  chain_45 true b = refl
  chain_45 false true = refl
  chain_45 false false = refl

  chain_2458 : (a b d e : Bool) → (cond a (refused 2 f) (cond b (refused 4 f) (cond d (refused 5 f) (cond e (refused 8 f) (done g))))).answer
      ≡ lowest (refusals a false b d false false e)
  unfolding lowest least applies
  chain_2458 true b d e = refl
  chain_2458 false true d e = refl
  chain_2458 false false true e = refl
  chain_2458 false false false true = refl
  chain_2458 false false false false = refl

  chain_24568 : (a b d e h : Bool) → (cond a (refused 2 f) (cond b (refused 4 f) (cond d (refused 5 f) (cond e (refused 6 f) (cond h (refused 8 f) (done g)))))).answer
      ≡ lowest (refusals a false b d e false h)
  unfolding lowest least applies
  chain_24568 true b d e h = refl
  chain_24568 false true d e h = refl
  chain_24568 false false true e h = refl
  chain_24568 false false false true h = refl
  chain_24568 false false false false true = refl
  chain_24568 false false false false false = refl

-- text: the first test says whether a node is needed
text_chain : (f g h : Full) (a b d : Bool) → (cond a (cond b (refused 4 f) (cond d (refused 7 f) (done g))) (cond d (refused 7 f) (done h))).answer
    ≡ lowest (refusals false false (a && b) false false d false)
unfolding lowest least applies
text_chain f g h true true d = refl
text_chain f g h true false true = refl
text_chain f g h true false false = refl
text_chain f g h false b true = refl
text_chain f g h false b false = refl

-- none free is fewer than one
none_free : (n : ℕ) → eqb n 0 ≡ ltb n 1
none_free n = by (dec_lt n 1)
  where
    by : Dec (n < 1) → eqb n 0 ≡ ltb n 1
    by (yes h) = rw (lt-ltb n 1 h, eq-eqb n 0 (omega arith))
    by (no h) = rw (le-ltb n 1 (omega arith), ne_eqb n 0 (omega arith))

-- ---- call by call

module _ (s : List ℕ) (f : Full) (r : Record) where
  element_exact : (inserted_element s f r.a r.b r.c r.from r.count).answer ≡ lowest (element_refusals s f r)
  unfolding inserted_element element_room element_refusals no_nodes no_pairs full_stack new_tag
  element_exact =
      let t = new_tag f r.a r.b r.c r.count in
      chain_2458 f (element_done f t (pairs_in s r.from r.count) (pushes r.c)) (bad_tag r.a r.b r.c || bad_pairs s r.from r.count)
      (no_nodes f (nodes_of t)) (pushes r.c && full_stack f) (no_pairs f r.count)

  text_exact : (inserted_text f r.a).answer ≡ lowest (text_refusals f)
  unfolding inserted_text text_at new_text joined_text text_refusals no_nodes no_pieces
  text_exact = rw (none_free (free_nodes f.nodes.mem f.nodes.used)) (text_chain f _ _ (eqb (text_before f.nodes.mem (usual_place f)) 0) (no_nodes f 1) (no_pieces f))

  comment_exact : (inserted_comment f r.a r.b).answer ≡ lowest (comment_refusals f r)
  unfolding inserted_comment comment_at comment_refusals no_nodes
  comment_exact = rw (none_free (free_nodes f.nodes.mem f.nodes.used)) (chain_24 f _ _ _)

  create_exact : (created s f r.a r.from r.count).answer ≡ lowest (create_refusals s f r)
  unfolding created created_for created_room create_refusals no_nodes no_pairs full_stack full_places new_tag
  create_exact =
      let t = new_tag f space.html r.a 1 r.count in
      let l = spared f t (pairs_in s r.from r.count) in
      chain_24568 f (listed (element_done f t (pairs_in s r.from r.count) true) l (f.nodes.used + 1)) (bad_formatting s r.a r.from r.count)
      (no_nodes f 1) (full_stack f) (full_places 256 l) (no_pairs f r.count)

  marker_exact : (marked f).answer ≡ lowest (marker_refusals f)
  unfolding marked marker_refusals full_places
  marker_exact = other_6 f (with_list f (pushed f.list MARKER)) (ltb f.list.size (room 256 f.list))

  clear_exact : (cleared f).answer ≡ lowest (only_unknown false)
  unfolding cleared lowest least applies
  clear_exact = refl

  reconstruct_exact : (reconstructed f).answer ≡ lowest (reconstruct_refusals f)
  unfolding reconstructed anew_room reconstruct_refusals no_nodes
  reconstruct_exact = chain_45 f _ _ _

  adoption_exact : (adoption f r.a).answer ≡ lowest (adoption_refusals f r)
  unfolding adoption adoption_refusals
  adoption_exact = chain_24 f _ _ _

  misnested_exact : (misnested f).answer ≡ lowest (misnested_refusals f)
  unfolding misnested misnested_at misnested_refusals is_found lowest least applies
  misnested_exact = by (entry_of f.nodes.mem f.list tag.a)
    where
      by : (o : Option ℕ) → (misnested_at o f).answer ≡ lowest (refusals false false (is_found o && few_nodes f) false false false false)
      by None = refl
      by (Some j) = chain_24 f _ false (few_nodes f)

  close_p_exact : (closed_p f).answer ≡ lowest (close_p_refusals f)
  unfolding closed_p close_p_refusals
  close_p_exact =
      other_3 f (with_stack f (without_p f.nodes.mem f.stack)) (is_found (in_scope ButtonScope (named f.nodes.mem tag.p) f.nodes.mem f.stack))

  close_cell_exact : (closed_cell f).answer ≡ lowest (close_cell_refusals f)
  unfolding closed_cell cleared close_cell_refusals
  close_cell_exact =
      let g = with_stack f (without_cell f.nodes.mem f.stack) in
      other_3 f (with_list g (cleared_at (place_of g.list MARKER) g.list)) (is_found (in_scope TableScope (is_cell f.nodes.mem) f.nodes.mem f.stack))

  mode_exact : (moded f r.a).answer ≡ lowest (mode_refusals f r)
  unfolding moded mode_refusals full_places
  mode_exact = chain_26 f (with_modes f (pushed f.modes r.a)) (eqb r.a 0 || ltb 21 r.a) (ltb f.modes.size (room 64 f.modes))

  unknown_exact : (unknown f).answer ≡ lowest (only_unknown true)
  unfolding unknown lowest least applies
  unknown_exact = refl

-- ---- by number

pick : (b : Bool) (x y : Result) (u v : Refusals) → x.answer ≡ lowest u → y.answer ≡ lowest v → (cond b x y).answer ≡ lowest (cond b u v)
pick true x y u v p q = p
pick false x y u v p q = q

module _ (s : List ℕ) (f : Full) (r : Record) where
  high_exact : (high_step r f).answer ≡ lowest (high_refusals f r)
  unfolding high_step high_refusals popped fostered headed unmoded
  high_exact =
      pick (eqb r.call 14) _ _ _ _ (chain_3 f _ _)
      (pick (eqb r.call 15) _ _ _ _ (chain_2 f _ _)
      (pick (eqb r.call 16) _ _ _ _ (mode_exact s f r)
      (pick (eqb r.call 17) _ _ _ _ (other_3 f (with_modes f (cut f.modes (f.modes.size - 1))) (ltb 0 f.modes.size))
      (pick (eqb r.call 18) _ _ _ _ (chain_2 f _ _) (unknown_exact s f r)))))

  middle_exact : (middle_step r f).answer ≡ lowest (middle_refusals f r)
  unfolding middle_step middle_refusals ended implied
  middle_exact =
      pick (eqb r.call 8) _ _ _ _ (adoption_exact s f r)
      (pick (eqb r.call 9) _ _ _ _ (misnested_exact s f r)
      (pick (eqb r.call 10) _ _ _ _ (chain_2 f _ _)
      (pick (eqb r.call 11) _ _ _ _ (close_p_exact s f r)
      (pick (eqb r.call 12) _ _ _ _ (close_cell_exact s f r)
      (pick (eqb r.call 13) _ _ _ _ (chain_2 f _ _) (unknown_exact s f r))))))

  low_exact : (low_step s r f).answer ≡ lowest (low_refusals s f r)
  unfolding low_step low_refusals
  low_exact =
      pick (eqb r.call 1) _ _ _ _ (element_exact s f r)
      (pick (eqb r.call 2) _ _ _ _ (text_exact s f r)
      (pick (eqb r.call 3) _ _ _ _ (comment_exact s f r)
      (pick (eqb r.call 4) _ _ _ _ (create_exact s f r)
      (pick (eqb r.call 5) _ _ _ _ (marker_exact s f r)
      (pick (eqb r.call 6) _ _ _ _ (clear_exact s f r)
      (pick (eqb r.call 7) _ _ _ _ (reconstruct_exact s f r) middle_exact))))))

  -- the answer is the lowest number that applies
  pub step_exact : (step s r f).answer ≡ lowest (refusals_of s r f)
  unfolding step refusals_of
  step_exact = pick (ltb r.call 14) _ _ _ _ low_exact high_exact

  -- a refusal's number applies
  pub answer_applies : (step s r f).answer ≢ 0 → applies (refusals_of s r f) (step s r f).answer ≡ true
  answer_applies d = rw step_exact (lowest_applies (refusals_of s r f) (rw step_exact at d))

  -- where a number applies, the call is refused, with that number or a lower one
  pub answer_lowest : (k : ℕ) → 2 ≤ k → k ≤ 8 → applies (refusals_of s r f) k ≡ true → (0 < (step s r f).answer) × ((step s r f).answer ≤ k)
  answer_lowest k a b e = rw step_exact (lowest_least (refusals_of s r f) k a b e)
