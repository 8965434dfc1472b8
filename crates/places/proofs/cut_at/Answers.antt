use Rattle.std.proofs.Common.{◌≡◌, ◌≤◌, ℕ, ◌-◌, refl, ap, sym, ◌∙◌, List, arith, length, take, drop, replicate, length-drop, length-take-le}
use Rattle.std.proofs.Math.ListN.{length-replicate}
use Rattle.std.proofs.lemmas.Slice.{put_mid-paste}
use Rattle.places.proofs.Laws.{places_by, cleared}
use Rattle.places.proofs.cut_at.Goals as goal

-- as many zeros as the part is long
zeros : (s t : List ℕ) (i n : ℕ) → n ≤ length (drop i s) → t ≡ replicate (length (take n (drop i s))) 0 → t ≡ replicate n 0
zeros s t i n le e = e ∙ ap (λ (k : ℕ). replicate k 0) (length-take-le n (drop i s) le)

pub returns : goal.returns
returns c =
    let e = zeros c.args.s.now c.fill.new.self c.args.i (c.args.d - c.args.i) (omega (arith, length-drop c.args.i c.args.s.now)) (c.fill.ensures.after (λ y e. e)) in
    let l = sym (length-replicate {A = ℕ} (c.args.d - c.args.i) 0) in
    (refl, places_by c.args.i (put_mid-paste c.args.i (c.args.d - c.args.i) c.args.s.now c.fill.new.self (replicate (c.args.d - c.args.i) 0) (c.args.d - c.args.i) e refl l) (cleared c.args.s.now c.args.d c.args.i (omega arith) (omega arith)))
