-- Links change and nothing else does: a sound state stays sound, if the lists of children and the order are there afterwards, and
-- the document, the root, contents, text and comments keep what their kinds ask for.
-- Assumes nothing.
use Rattle.std.specs.Prelude.{ℕ, ◌≤◌, ◌<◌, ◌≡◌, List, length, take, Option}
use Rattle.std.proofs.Common.{sym, ap, ◌∙◌, arith, lt-ltb, ne_eqb}
use Rattle.theory.specs.Kids.{hd, lst}
use Rattle.theory.specs.Natural.{Natural}
use Rattle.lent.specs.Mem.{field, up, KIND, PARENT, PREV, NEXT, FIRST, LAST, TIE, PIECE, END}
use Rattle.arena.proofs.Children.{Forest}
use Rattle.arena.proofs.Others.{NoLink}
use Rattle.arena.proofs.Ancestors.{kind_free}
use Rattle.state.specs.declared.Context.{Context}
use Rattle.sound.specs.Sound.{Sound}
use Rattle.kept.specs.Same.{Links, changed, names_refl}
use Rattle.kept.specs.Pieces.{words_same}

-- fields from TIE on are no links
pub late_free : (f : ℕ) → TIE ≤ f → f < 16 → NoLink f
late_free f h k =
    record {
      below = lt-ltb f 16 k;
      parent = ne_eqb PARENT f (λ e. omega arith);
      prev = ne_eqb PREV f (λ e. omega arith);
      next = ne_eqb NEXT f (λ e. omega arith);
      first = ne_eqb FIRST f (λ e. omega arith);
      last = ne_eqb LAST f (λ e. omega arith);
    }

-- from m to m' links of the nodes 1 to c change
pub record Rewired (m m' : List ℕ) (c : ℕ) : Type 0 where
  pub size : length m' ≡ length m
  pub fields : (k f : ℕ) → NoLink f → field m' k f ≡ field m k f
  pub kids : ℕ → List ℕ
  pub forest : Forest m' c kids
  pub links : (n : ℕ) → 0 < n → n ≤ c → Links m m' n
  pub root : field m' 2 PARENT ≡ field m 2 PARENT

-- a node whose list of children is as it was keeps its first and its last child
pub ends_same : {m m' : List ℕ} {c : ℕ} {ks ks' : ℕ → List ℕ} → Forest m c ks → Forest m' c ks' → (y : ℕ) → 0 < y → y ≤ c → ks' y ≡ ks y
    → (field m' y FIRST ≡ field m y FIRST) × (field m' y LAST ≡ field m y LAST)
ends_same f g y z h e = (
  g.are.first y z h ∙ ap (λ (r : List ℕ). hd r 0) e ∙ sym (f.are.first y z h),
  g.are.last y z h ∙ ap (λ (r : List ℕ). lst 0 r) e ∙ sym (f.are.last y z h),
)

pub rewired_sound : {m p q l f t : List ℕ} {c v u d k s foster head : ℕ} {x : Option Context} → Sound m p q l f t c v u d k s foster head x
    → {m' : List ℕ} → Rewired m m' c → Natural (up m') c (take d l) → Sound m' p q l f t c v u d k s foster head x
rewired_sound {q = q} {u = u} o w r =
    changed o
    (record {
      sizes = record { nodes = (o.sizes.nodes.0, rw w.size o.sizes.nodes.1); pieces = o.sizes.pieces; pairs = o.sizes.pairs };
      more = omega arith;
      longer = omega arith;
      same =
          record {
            kind = λ y z h. w.fields y KIND kind_free;
            rest = λ y g z h i j. w.fields y g (late_free g i (omega arith));
            end = λ y z h e. w.fields y END (late_free END (omega arith) (omega arith));
          };
      links = w.links;
      root = w.root;
      names = names_refl q u;
      children = record { parent = w.forest.parents; kids = w.kids; is_kids = w.forest.are };
      kinds = λ y g h. absurd (omega arith);
      known = o.tree.names;
      order = r;
      texts =
          words_same o.texts
          (record {
            kind = λ y z h. w.fields y KIND kind_free;
            piece = λ y z h. w.fields y PIECE (late_free PIECE (omega arith) (omega arith));
            end = λ y z h. w.fields y END (late_free END (omega arith) (omega arith));
          });
    })
