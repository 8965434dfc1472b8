use Rattle.std.proofs.Common.{◌≡◌, ap, List, ℕ, ◌+◌, ◌-◌, arith, length, take, drop}
use Rattle.names.specs.Numbers.{rows, bytes_of}
use Rattle.names.specs.Flat.{flat, start_of}
use Rattle.names.proofs.Rows.{start_next, start_fits, flat_length, part_is}
use Rattle.names.proofs.name_in.Goals as goal

part_eq : (bytes : List ℕ) (n k f e : ℕ) → bytes ≡ flat rows → k ≡ n → f ≡ start_of k → e ≡ start_of (k + 1) → take (e - f) (drop f bytes) ≡ bytes_of n
part_eq bytes n k f e p i q r =
    let len : e - f ≡ length (bytes_of k) = omega (arith, start_next k) in
    rw (len, q, p, i) (part_is n)

pub slice_bounds-result-count : goal.slice_bounds-result-count
slice_bounds-result-count c = omega (arith, start_next c.from-k.result)

pub slice_bounds-result-start : goal.slice_bounds-result-start
slice_bounds-result-start c = omega (arith, start_next c.from-k.result)

pub slice_bounds-result-end : goal.slice_bounds-result-end
slice_bounds-result-end c = omega (arith, start_fits (c.from-k.result + 1), ap length c.requires.laid.bytes_are, flat_length)

pub returns : goal.returns
returns c = part_eq c.args.bytes.now c.args.n c.from-k.result c.start_in.result c.start_in-2.result c.requires.laid.bytes_are c.from-k.ensures c.start_in.ensures c.start_in-2.ensures
