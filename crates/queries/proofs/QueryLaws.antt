-- The questions at the edge: what a sound state gives them.
-- Assumes nothing.
use Rattle.std.proofs.Common.{ℕ, ◌<◌, ◌≤◌, ◌≡◌, ◌≢◌, refl, sym, ◌∙◌, Bool, true, false, cond, not, List, length, get_or, arith, take, take-take, lt-ltb, le-ltb, leb, Option, Some, None, Result as OkOrErr, Ok, Err}
use Rattle.std.proofs.lemmas.Bool.{leb-false}
use Rattle.names.specs.Tag as tag
use Rattle.places.specs.Places.{places_of, at}
use Rattle.records.specs.declared.refusal.Refusal.{Refusal}
use Rattle.records.specs.Refusal.{answer_number}
use Rattle.state.specs.declared.State.{State}
use Rattle.state.specs.Fields.{core_of}
use Rattle.standard.specs.Html.{is_html}
use Rattle.sound.specs.State.{SoundFull}
use Rattle.kept.specs.Step.{sound_ready}
use Rattle.kept.specs.Usual.{open_inside}
use Rattle.edge.specs.Public.{whole}
use Rattle.queries.specs.declared.reset.Reset.{Reset}
use Rattle.queries.specs.declared.reset.Reset.TheVariants.{Template}
use Rattle.queries.specs.Told.{Asked, told, refused, asked}
use Rattle.queries.specs.Element.{Expanded}
use Rattle.queries.specs.Reset.{walked, reset_mode}
use Rattle.queries.specs.Reset as reset
use Rattle.queries.specs.Foreign.{bad_token, is_html_content, adjusted, flag_number, is_foreign}
use Rattle.queries.specs.BodyElem.{second, body_elem}
use Rattle.queries.specs.BodyElem as body
use Rattle.queries.specs.Tokenizer.{for_context, tokenizer_state}

-- the modes in use alone
pub given_whole : (m : List ℕ) (c : ℕ) → c ≡ length (take c m) → reset.given Template (places_of (take c m) (length (take c m))) ≡ reset.given Template (places_of m c)
unfolding reset.given at
given_whole m c e = rw (← e, take-take c c m (omega arith))

module _ (st : State) (n l m p q : List ℕ) where
  module _ (ok : SoundFull (whole st n l m p q)) where
    pub depth_some : 0 < st.stack.depth
    unfolding whole core_of
    depth_some = (sound_ready _ ok).some

    pub depth_most : st.stack.depth ≤ 512
    unfolding whole core_of
    depth_most = (sound_ready _ ok).deep

    pub modes_whole : st.counts.modes ≡ length (take st.counts.modes m)
    unfolding whole core_of
    modes_whole = ok.modes.all

    -- an open element is a node
    pub second_some : (k : ℕ) → Some k ≡ second n (places_of st.stack.handles st.stack.depth) → k ≢ 0
    unfolding second whole core_of at
    second_some k e z = by (leb st.stack.depth 1) refl (is_html n (get_or (take st.stack.depth st.stack.handles) 1 0) tag.body) e
      where
        open_node : 1 < st.stack.depth → get_or (take st.stack.depth st.stack.handles) 1 0 ≢ 0
        open_node lt h = let g = (open_inside ok.sound 1 lt).some in omega arith

        by : (a : Bool) → leb st.stack.depth 1 ≡ a → (b : Bool)
            → Some k ≡ cond a None (cond b (Some (get_or (take st.stack.depth st.stack.handles) 1 0)) None) → ⊥
        by true ea b e = (cc)
        by false ea true e = let g : k ≡ get_or (take st.stack.depth st.stack.handles) 1 0 = cc in open_node (leb-false _ _ ea) (sym g ∙ z)
        by false ea false e = (cc)

  pub reset_edge : {r : Reset} {a : Asked} → a ≡ reset.given r (places_of m st.counts.modes)
      → r ≡ walked n (places_of st.stack.handles st.stack.depth) st.context st.flags.head st.stack.depth → a ≡ reset_mode (whole st n l m p q)
  unfolding reset_mode whole core_of
  reset_edge ea er = ea ∙ rw er

  pub body_edge : {b : Option ℕ} → b ≡ second n (places_of st.stack.handles st.stack.depth) → body.given b ≡ body_elem (whole st n l m p q)
  unfolding body_elem whole core_of
  body_edge e = rw e

  module _ (kind name : ℕ) where
    pub foreign_bad : (r : OkOrErr Bool Refusal) → bad_token kind name ≡ true → answer_number r ≡ 2 → asked flag_number r ≡ is_foreign (whole st n l m p q) kind name
    unfolding is_foreign
    foreign_bad r e k = rw e (by r k)
      where
        by : (r : OkOrErr Bool Refusal) → answer_number r ≡ 2 → asked flag_number r ≡ refused 2
        by (Ok b) k = absurd (omega arith)
        by (Err x) k = rw k

    pub foreign_good : {e : Expanded} {b : Bool} → bad_token kind name ≡ false → e ≡ adjusted n (places_of st.stack.handles st.stack.depth) st.context
        → b ≡ is_html_content e kind name → told (flag_number (not b)) ≡ is_foreign (whole st n l m p q) kind name
    unfolding is_foreign whole core_of
    foreign_good {e} {b} h ee eb = rw (h, ← ee, ← eb) (by b)
      where
        by : (b : Bool) → told (flag_number (not b)) ≡ told (cond b 0 1)
        by true = refl
        by false = refl

  module _ (scripting : ℕ) where
    pub tokenizer_bad : 1 < scripting → refused 2 ≡ tokenizer_state (whole st n l m p q) scripting
    unfolding tokenizer_state
    tokenizer_bad h = rw (lt-ltb 1 scripting h)

    pub tokenizer_edge : {a : Asked} → scripting ≤ 1 → a ≡ for_context scripting st.context → a ≡ tokenizer_state (whole st n l m p q) scripting
    unfolding tokenizer_state whole
    tokenizer_edge h ea = rw (le-ltb 1 scripting h) ea
