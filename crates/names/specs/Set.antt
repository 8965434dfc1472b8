-- The names of each set of the code.
-- Assumes nothing.
use Rattle.names.specs.Sets.{Names, Formatting, Special, DefaultScope, ListItemScope, ButtonScope, TableScope, Cursory, Thorough, FosterTargets, MathTextPoints, SvgPoints}
use Rattle.names.specs.declared.sets.Set.{Set}
use Rattle.names.specs.declared.sets.Set.TheVariants as set

abbrev pub names_of : Set → Names
names_of set.Formatting = Formatting
names_of set.Special = Special
names_of set.DefaultScope = DefaultScope
names_of set.ListItemScope = ListItemScope
names_of set.ButtonScope = ButtonScope
names_of set.TableScope = TableScope
names_of set.Cursory = Cursory
names_of set.Thorough = Thorough
names_of set.FosterTargets = FosterTargets
names_of set.MathTextPoints = MathTextPoints
names_of set.SvgPoints = SvgPoints
