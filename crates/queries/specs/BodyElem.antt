-- The body element, as 13.2.6.4.7 looks for it: "the second element on the stack of open elements", if it is a body element.
-- Assumes nothing.
use Rattle.std.specs.Prelude.{ℕ, cond, List, leb, ◌≢◌, None, Option, Some, IfSome, IfOk, Result as OkOrErr}
use Rattle.lent.specs.declared.Node.{Node}
use Rattle.records.specs.declared.refusal.Refusal.{Refusal}
use Rattle.names.specs.Tag as tag
use Rattle.places.specs.Places.{Places, at}
use Rattle.state.specs.Full.{Full}
use Rattle.standard.specs.Html.{is_html}
use Rattle.queries.specs.Told.{Asked, told}

unfoldable pub second : List ℕ → Places → Option ℕ
second m s = cond (leb s.size 1) None (cond (is_html m (at s 1) tag.body) (Some (at s 1)) None)

-- its node, 0 if there is none
unfoldable pub given : Option ℕ → Asked
given (Some n) = told n
given None = told 0

abbrev pub node_number : Option Node → ℕ
node_number (Some n) = n.0
node_number None = 0

-- a body that is found is a node
abbrev pub FindsNode : OkOrErr (Option Node) Refusal → Type 0
FindsNode r = IfOk r (λ (found : Option Node). IfSome found (λ (n : Node). n.0 ≢ 0))

unfoldable pub body_elem : Full → Asked
body_elem f = given (second f.nodes.mem f.stack)
