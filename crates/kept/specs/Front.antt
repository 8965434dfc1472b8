-- Places that change at the end alone: a list whose first entries are those of another keeps the rules on them.
-- Laws of `pushed` and `cut`, and the rules of `Sound` that look at places.
-- Assumes nothing.
use Rattle.std.specs.Prelude.{ℕ, suc, ◌+◌, ◌≤◌, ◌<◌, ◌≡◌, List, [], ◌∷◌, ◌++◌, length, take}
use Rattle.std.proofs.Common.{sym, ◌∙◌, arith, get_or-take, length-append, length-take, length-drop}
use Rattle.std.proofs.Math.Decide.{dec_lt}
use Rattle.std.proofs.Math.ListN.{length-replicate, get_or-append}
use Rattle.std.proofs.lemmas.List.{get_or_at}
use Rattle.theory.specs.Fn.{at}
use Rattle.theory.specs.Natural.{Natural}
use Rattle.lent.specs.Mem.{field, KIND, ELEMENT}
use Rattle.places.specs.Places.{Places, Whole, pushed, cut}
use Rattle.sound.specs.Sound.{Open, Entry, Entries, Modes, MARKER}

-- the first d entries of l' are those of l
pub record Front (l l' : List ℕ) (d : ℕ) : Type 0 where
  pub same : (i : ℕ) → i < d → at l' i ≡ at l i

pub front_less : {l l' : List ℕ} {d e : ℕ} → Front l l' d → e ≤ d → Front l l' e
front_less f h = record { same = λ i b. f.same i (omega arith) }

pub front_back : {l l' : List ℕ} {d : ℕ} → Front l l' d → Front l' l d
front_back f = record { same = λ i b. sym (f.same i b) }

pub front_take : (l : List ℕ) (d : ℕ) → Front l (take d l) d
front_take l d = record { same = λ i b. get_or-take d l i 0 b }

pub front_more : (l : List ℕ) (n d : ℕ) → d ≤ length l → Front l (l ++ n ∷ []) d
front_more l n d h = record { same = λ i b. get_or-append l (n ∷ []) 0 i (omega arith) }

-- ---- places after a push and after a cut

module _ (p : Places) (w : Whole p) where
  pub pushed_whole : (n : ℕ) → Whole (pushed p n)
  unfolding pushed
  pushed_whole n = record { all = omega (arith, w.all, length-append p.held (n ∷ [])) }

  pub pushed_total : (n : ℕ) → 0 < length p.free
      → length (pushed p n).held + length (pushed p n).free ≡ length p.held + length p.free
  unfolding pushed
  pushed_total n h = omega (arith, length-append p.held (n ∷ []), length-drop 1 p.free)

  pub cut_whole : (i : ℕ) → i ≤ p.size → Whole (cut p i)
  unfolding cut
  cut_whole i h = record { all = omega (arith, w.all, length-take i p.held) }

  pub cut_total : (i : ℕ) → i ≤ p.size → length (cut p i).held + length (cut p i).free ≡ length p.held + length p.free
  unfolding cut
  cut_total i h = simp (length-take, length-append, length-replicate {A = ℕ}) (omega (arith, w.all))

-- ---- the rules

-- an order is one on fewer entries
pub natural_front : {up : ℕ → ℕ} {c : ℕ} {s s' : List ℕ} → Natural up c s → length s' ≤ length s → Front s s' (length s') → Natural up c s'
natural_front {up} {c} {s} {s'} n h f =
    record {
      used = n.used;
      ends = n.ends;
      inside = λ i b. rw (f.same i b) (n.inside i (omega arith));
      apart = λ i j a b. rw (f.same i (omega arith), f.same j b) (n.apart i j a (omega arith));
      above = λ i j a b. rw (f.same i (omega arith), f.same j b) (n.above i j a (omega arith));
    }

pub order_front : {up : ℕ → ℕ} {c : ℕ} {l l' : List ℕ} {d d' : ℕ} → Natural up c (take d l) → d ≤ length l → d' ≤ d → d' ≤ length l' → Front l l' d'
    → Natural up c (take d' l')
order_front {l = l} {l'} {d} {d'} n h g k f =
    natural_front n (omega (arith, length-take d l, length-take d' l'))
    (record {
      same = λ i b. let a : i < d' = omega (arith, length-take d' l') in
          get_or-take d' l' i 0 a ∙ f.same i a ∙ sym (get_or-take d l i 0 (omega arith));
    })

pub open_front : {m l l' : List ℕ} {d d' : ℕ} → Open m l d → 0 < d' → d' ≤ d → Front l l' d' → Open m l' d'
open_front {m} o z h f =
    record {
      some = z;
      root = f.same 0 z ∙ o.root;
      elements = λ i b. rw (f.same i b) (o.elements i (omega arith));
    }

pub entry_front : {m l l' : List ℕ} {c i : ℕ} → Entry m c l i → Front l l' (suc i) → Entry m c l' i
entry_front {i = i} e f =
    let s = f.same i (omega arith) in
    record {
      used = rw s e.used;
      html = rw s e.html;
      name = rw s e.name;
      lone = rw s (λ n. record { none = λ j b. rw (f.same j (omega arith), s) ((e.lone n).none j b) });
    }

pub entries_front : {m l l' : List ℕ} {c k k' : ℕ} → Entries m c l k → k' ≤ k → Front l l' k' → Entries m c l' k'
entries_front e h f = record { entry = λ i b. entry_front (e.entry i (omega arith)) (front_less f b) }

pub modes_front : {t t' : List ℕ} {s s' : ℕ} → Modes t s → s' ≤ s → Front t t' s' → Modes t' s'
modes_front o h f = record { mode = λ i b. rw (f.same i b) (o.mode i (omega arith)) }

-- ---- one more entry

pub entries_marker : {m l : List ℕ} {c k : ℕ} → Entries m c l k → k ≡ length l → Entries m c (l ++ MARKER ∷ []) (k + 1)
entries_marker {m} {l} {c} {k} e h = record { entry = λ i b. by i b (dec_lt i k) }
  where
    by : (i : ℕ) → i < k + 1 → Dec (i < k) → Entry m c (l ++ MARKER ∷ []) i
    by i b (yes a) = entry_front (e.entry i a) (front_more l MARKER (suc i) (omega arith))
    by i b (no a) =
        let s : at (l ++ MARKER ∷ []) i ≡ MARKER = get_or_at l MARKER [] 0 i (omega arith) in
        record { used = λ n. absurd (n s); html = λ n. absurd (n s); name = λ n. absurd (n s); lone = λ n. absurd (n s) }

pub modes_more : {t : List ℕ} {s v : ℕ} → Modes t s → s ≡ length t → 1 ≤ v → v ≤ 21 → Modes (t ++ v ∷ []) (s + 1)
modes_more {t} {s} {v} o h a z = record { mode = λ i b. by i b (dec_lt i s) }
  where
    by : (i : ℕ) → i < s + 1 → Dec (i < s) → (1 ≤ at (t ++ v ∷ []) i) × (at (t ++ v ∷ []) i ≤ 21)
    by i b (yes y) = rw ((front_more t v (suc i) (omega arith)).same i (omega arith)) (o.mode i y)
    by i b (no y) = rw (get_or_at t v [] 0 i (omega arith)) (a, z)

pub open_more : {m l : List ℕ} {d : ℕ} (n : ℕ) → Open m l d → d ≡ length l → field m n KIND ≡ ELEMENT → Open m (l ++ n ∷ []) (d + 1)
open_more {m} {l} {d} n o h e =
    record {
      some = omega arith;
      root = (front_more l n d (omega arith)).same 0 o.some ∙ o.root;
      elements = λ i b. by i b (dec_lt i d);
    }
  where
    by : (i : ℕ) → i < d + 1 → Dec (i < d) → field m (at (l ++ n ∷ []) i) KIND ≡ ELEMENT
    by i b (yes y) = rw ((front_more l n d (omega arith)).same i y) (o.elements i y)
    by i b (no y) = rw (get_or_at l n [] 0 i (omega arith)) e
