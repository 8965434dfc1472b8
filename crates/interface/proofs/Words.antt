-- The promises of `Public` are the contracts of the source, no more and no less: none asks anything of its caller, and what a caller
-- learns from one is the promise. What is lent to be read, and what is not lent at all, is the same memory after the call.
-- Assumes nothing.
use Rattle.std.proofs.Common.{ℕ, refl, List}
use borrow.Fn.Kinds.{ParamKind, ResultKind, Dens, res_t, ended_of, In, Out}
use contract.Lifetimes.{Lfts}
use denote.Triple.Clauses.{AtExit}
use Rattle.edge.proofs.is_sound.Kinds as check-kinds
use Rattle.edge.proofs.is_sound.Reads as check-reads
use Rattle.begin.proofs.begin.Kinds as begin-kinds
use Rattle.begin.proofs.begin.Reads as begin-reads
use Rattle.calls.proofs.run.Kinds as run-kinds
use Rattle.calls.proofs.run.Reads as run-reads
use Rattle.calls.proofs.call.Kinds as call-kinds
use Rattle.calls.proofs.call.Reads as call-reads
use Rattle.queries.proofs.reset.reset_insertion_mode.Kinds as reset-kinds
use Rattle.queries.proofs.reset.reset_insertion_mode.Reads as reset-reads
use Rattle.queries.proofs.foreign.is_foreign.Kinds as foreign-kinds
use Rattle.queries.proofs.foreign.is_foreign.Reads as foreign-reads
use Rattle.queries.proofs.body_elem.body_elem.Kinds as body-kinds
use Rattle.queries.proofs.body_elem.body_elem.Reads as body-reads
use Rattle.queries.proofs.tokenizer.tokenizer_state_for_context_elem.Kinds as tokenizer-kinds
use Rattle.queries.proofs.tokenizer.tokenizer_state_for_context_elem.Reads as tokenizer-reads
use Rattle.dump.proofs.start.Kinds as start-kinds
use Rattle.dump.proofs.start.Reads as start-reads
use Rattle.dump.proofs.next.Kinds as next-kinds
use Rattle.dump.proofs.next.Reads as next-reads
use Rattle.dump.proofs.line.Kinds as line-kinds
use Rattle.dump.proofs.line.Reads as line-reads
use Rattle.state.specs.declared.State.{State}
use Rattle.state.specs.declared.lent.Seen.{Seen}
use Rattle.state.specs.Lent.{SameMemory}
use Rattle.interface.specs.Questions as questions
use Rattle.interface.specs.Public.{Public, check, begin, run, call, ask, start, next, line, Lent, Gives, Promise}

-- a contract asks nothing of what it is called with, and says P of that, of what is given back and of what was lent mutably
pub record Contract (n : ℕ) (ps : List (ParamKind n)) (r : ResultKind n) (Asked : In n ps) (Learnt : Out n ps r) (P : Out n ps r) : Type 1 where
  pub asks : (κs : Lfts n) (a : Dens κs ps) → Asked κs a
  pub promised : (κs : Lfts n) (a : Dens κs ps) (z : (res_t r κs).Denot) (e : AtExit (ended_of n ps r) κs) → Learnt κs a z e → P κs a z e
  pub no_more : (κs : Lfts n) (a : Dens κs ps) (z : (res_t r κs).Denot) (e : AtExit (ended_of n ps r) κs) → P κs a z e → Learnt κs a z e

-- a call that only reads
abbrev Still : (c : Public) → Gives c → Lent → Type 0
Still c z m = Promise c m (record { gives = z; lent = m })

abbrev lent : List ℕ → List ℕ → List ℕ → List ℕ → List ℕ → List ℕ → List ℕ → Lent
lent n l m p q i o = record { nodes = n; list = l; modes = m; pieces = p; pairs = q; input = i; out = o }

-- what a host lends to be read
abbrev seen : Seen → List ℕ → List ℕ → Lent
seen s i o = lent s.nodes.now s.list.now s.modes.now s.pieces.now s.pairs.now i o

-- l, d, p, q, i and o are what is not lent
module _ (l d p q i o : List ℕ) where
  -- ---- calls that read the state

  pub check_promised : Contract 1 check-kinds.ps check-kinds.r check-reads.Asked check-reads.Learnt
      (λ κs a z e. Still (check a.0) z (seen a.1.0 i o))
  check_promised = record { asks = λ κs a. tt; promised = λ κs a z e h. (h, refl); no_more = λ κs a z e w. w.0 }

  pub reset_promised : Contract 1 reset-kinds.ps reset-kinds.r reset-reads.Asked reset-reads.Learnt
      (λ κs a z e. Still (ask questions.reset a.0) z (seen a.1.0 i o))
  unfolding questions.answer_of
  reset_promised = record { asks = λ κs a. tt; promised = λ κs a z e h. (h, tt, refl); no_more = λ κs a z e w. w.0 }

  pub foreign_promised : Contract 1 foreign-kinds.ps foreign-kinds.r foreign-reads.Asked foreign-reads.Learnt
      (λ κs a z e. Still (ask (questions.foreign a.1.1.0 a.1.1.1.0) a.0) z (seen a.1.0 i o))
  unfolding questions.answer_of
  foreign_promised = record { asks = λ κs a. tt; promised = λ κs a z e h. (h, tt, refl); no_more = λ κs a z e w. w.0 }

  pub body_promised : Contract 1 body-kinds.ps body-kinds.r body-reads.Asked body-reads.Learnt
      (λ κs a z e. Still (ask questions.body a.0) z (seen a.1.0 i o))
  unfolding questions.answer_of
  body_promised = record { asks = λ κs a. tt; promised = λ κs a z e h. (h.0, h.1, refl); no_more = λ κs a z e w. (w.0, w.1) }

  pub tokenizer_promised : Contract 1 tokenizer-kinds.ps tokenizer-kinds.r tokenizer-reads.Asked tokenizer-reads.Learnt
      (λ κs a z e. Still (ask (questions.tokenizer a.1.1.0) a.0) z (seen a.1.0 i o))
  unfolding questions.answer_of
  tokenizer_promised = record { asks = λ κs a. tt; promised = λ κs a z e h. (h, tt, refl); no_more = λ κs a z e w. w.0 }

  -- ---- calls that change it

  -- whatever record the caller has
  pub begin_promised : Contract 2 begin-kinds.ps begin-kinds.r begin-reads.Asked begin-reads.Learnt
      (λ κs a z e.
      (st : State)
      → Promise (begin st a.1.1.0) (lent a.0.now l a.1.0.now p q i o)
      (record { gives = z; lent = lent e.0.now l e.1.0.now p q i o }))
  begin_promised =
      record {
        asks = λ κs a. tt;
        promised = λ κs a z e h st. (h st, record { list = refl; pieces = refl; pairs = refl; rest = record { input = refl; out = refl } });
        no_more = λ κs a z e w st. (w st).0;
      }

  pub run_promised : Contract 3 run-kinds.ps run-kinds.r run-reads.Asked run-reads.Learnt
      (λ κs a z e.
      Promise (run a.0) (lent a.1.0.now.nodes.now a.1.0.now.list.now a.1.0.now.modes.now a.1.0.now.pieces.now a.1.0.now.pairs.now a.1.1.0.now o)
      (record { gives = z; lent = lent e.1.0.now.nodes.now e.1.0.now.list.now e.1.0.now.modes.now e.1.0.now.pieces.now e.1.0.now.pairs.now a.1.1.0.now o })
      × SameMemory a.1.0.now e.1.0.now)
  run_promised =
      record {
        asks = λ κs a. tt;
        promised = λ κs a z e h. ((h.1, record { input = refl; out = refl }), h.0);
        no_more = λ κs a z e w. (w.1, w.0.0);
      }

  pub call_promised : Contract 3 call-kinds.ps call-kinds.r call-reads.Asked call-reads.Learnt
      (λ κs a z e.
      Promise (call a.0) (lent a.1.0.now.nodes.now a.1.0.now.list.now a.1.0.now.modes.now a.1.0.now.pieces.now a.1.0.now.pairs.now a.1.1.0.now o)
      (record { gives = z; lent = lent e.1.0.now.nodes.now e.1.0.now.list.now e.1.0.now.modes.now e.1.0.now.pieces.now e.1.0.now.pairs.now a.1.1.0.now o })
      × SameMemory a.1.0.now e.1.0.now)
  call_promised =
      record {
        asks = λ κs a. tt;
        promised = λ κs a z e h. ((h.1.0, h.1.1, record { input = refl; out = refl }), h.0);
        no_more = λ κs a z e w. (w.1, (w.0.0, w.0.1));
      }

  -- ---- the dump

  pub start_promised : Contract 1 start-kinds.ps start-kinds.r start-reads.Asked start-reads.Learnt
      (λ κs a z e. Still start z (lent a.0.now l d p q i o))
  start_promised = record { asks = λ κs a. tt; promised = λ κs a z e h. (h, refl); no_more = λ κs a z e w. w.0 }

  pub next_promised : Contract 1 next-kinds.ps next-kinds.r next-reads.Asked next-reads.Learnt
      (λ κs a z e. Still (next a.1.0) z (lent a.0.now l d p q i o))
  next_promised = record { asks = λ κs a. tt; promised = λ κs a z e h. (h, refl); no_more = λ κs a z e w. w.0 }

  pub line_promised : Contract 4 line-kinds.ps line-kinds.r line-reads.Asked line-reads.Learnt
      (λ κs a z e.
      Promise (line a.1.1.1.0) (lent a.0.now l d a.1.0.now a.1.1.0.now i a.1.1.1.1.0.now)
      (record { gives = z; lent = lent a.0.now l d a.1.0.now a.1.1.0.now i e.1.1.1.1.0.now }))
  line_promised =
      record {
        asks = λ κs a. tt;
        promised = λ κs a z e h. (h.0, h.1, record { nodes = refl; list = refl; modes = refl; pieces = refl; pairs = refl; input = refl });
        no_more = λ κs a z e w. (w.0, w.1);
      }
