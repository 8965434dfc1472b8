-- A record that stands in the input asks for its call: a single call with the record at the front is the call by its number, with the
-- record's arguments, and the pairs that the call sees are the record's.
-- Assumes nothing.
use Rattle.std.specs.Prelude.{ℕ, ◌+◌, ◌≡◌, refl, List, [], ◌∷◌, ◌++◌, length, get_or}
use Rattle.records.specs.Record.{asked}
use Rattle.records.specs.Written.{encoded, encoded_all, flat, record_of, Low, Written, Stands}
use Rattle.records.proofs.Records.{stands_rest, pair_there, item_call}
use Rattle.state.specs.Full.{Full}
use Rattle.standard.specs.Pairs.{pairs_in}
use Rattle.standard.specs.Step.{step}
use Rattle.standard.specs.Run.{on_single, single}

-- the pairs that stand from i on are the ones that a call sees there
pub pairs_seen : (s : List ℕ) (i : ℕ) (ps : List (ℕ × ℕ)) → Low (flat ps) → Stands s i (encoded_all (flat ps)) → pairs_in s i (length ps) ≡ ps
unfolding pairs_in flat encoded_all
pairs_seen s i [] h w = refl
pairs_seen s i (p ∷ ps) h w =
    let t = pair_there s i p.0 p.1 (encoded_all (flat ps)) h.0 h.1.0 w in
    let v = stands_rest (encoded p.0) (encoded p.1 ++ encoded_all (flat ps)) w in
    rw (t.0, t.1, t.2, pairs_seen s (i + length (encoded p.0) + length (encoded p.1)) ps h.1.1 (stands_rest (encoded p.1) (encoded_all (flat ps)) v))

-- a single call with a record at the front is the call that the record asks for
pub single_asks : (s : List ℕ) (f : Full) (call : ℕ) (args : List ℕ) (ps : List (ℕ × ℕ)) → Written call args ps → Stands s 0 (record_of call args ps)
    → (from : ℕ)
    × (single s f ≡ step s (asked call (get_or args 0 0) (get_or args 1 0) (get_or args 2 0) from (length ps)) f)
    × (pairs_in s from (length ps) ≡ ps)
unfolding single on_single
single_asks s f call args ps t w =
    let r = item_call s 0 call args ps t w in
    (r.0, rw r.1.is, pairs_seen s r.0 ps t.smalls r.1.stands)
