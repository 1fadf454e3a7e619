-- None of the values is a NaN.
-- Assumes nothing.
use borrow.Author.Rules.{rules}
use Rattle.state_values.proofs.ValueRules.{depth_no_nan, colour_no_nan}
use Rattle.state_values.proofs.values.Goals as goal

pub value-requires : goal.value-requires
value-requires c = depth_no_nan _ 0 (search rules) c.in-Viewport.is c.requires

pub value-requires-in-Viewport : goal.value-requires-in-Viewport
value-requires-in-Viewport c = depth_no_nan _ 1 (search rules) c.in-Viewport.is c.requires

pub value-requires-in-ColourCalc : goal.value-requires-in-ColourCalc
value-requires-in-ColourCalc c = colour_no_nan _ 2 (search rules) (search rules) c.in-ColourCalc.is c.requires

pub value-requires-in-ColourCalc-2 : goal.value-requires-in-ColourCalc-2
value-requires-in-ColourCalc-2 c = colour_no_nan _ 3 (search rules) (search rules) c.in-ColourCalc.is c.requires

pub value-requires-in-ColourCalc-3 : goal.value-requires-in-ColourCalc-3
value-requires-in-ColourCalc-3 c = colour_no_nan _ 4 (search rules) (search rules) c.in-ColourCalc.is c.requires

pub value-requires-in-ColourCalc-4 : goal.value-requires-in-ColourCalc-4
value-requires-in-ColourCalc-4 c = colour_no_nan _ 5 (search rules) (search rules) c.in-ColourCalc.is c.requires
