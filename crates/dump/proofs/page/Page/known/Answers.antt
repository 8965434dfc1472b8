use Rattle.std.proofs.Common.{replicate, lit≤}
use Rattle.dump.proofs.NameLaws.{name_within, name_count, name_bytes}
use Rattle.dump.proofs.WrittenLaws.{grew_as}
use Rattle.dump.proofs.page.Page.known.Goals as goal

pub slice_bounds-name-end : goal.slice_bounds-name-end
slice_bounds-name-end c = name_within (replicate 32 0) c.args.n (lit≤ tt) c.put_name-size.ensures.value c.put_name-size.ensures.out_after

pub slice_bounds-bytes-end : goal.slice_bounds-bytes-end
slice_bounds-bytes-end c = name_count (replicate 32 0) c.args.n (lit≤ tt) c.put_name-size.ensures.value c.put_name-size.ensures.out_after

pub returns : goal.returns
returns c = grew_as (name_bytes (replicate 32 0) c.args.n (lit≤ tt) c.put_name-size.ensures.value c.put_name-size.ensures.out_after)
    c.bytes.ensures
