use Rattle.refusals.proofs.line.Line.put_case.Goals as goal

pub returns-in-DoubleSite-clause-text : goal.returns-in-DoubleSite-clause-text
returns-in-DoubleSite-clause-text c = rw c.in-DoubleSite.is c.put_at_row.ensures.text

pub returns-in-TwoDepots-clause-text : goal.returns-in-TwoDepots-clause-text
returns-in-TwoDepots-clause-text c = rw c.in-TwoDepots.is c.put_at_row-in-TwoDepots.ensures.text

pub returns-in-NoDepot-clause-text : goal.returns-in-NoDepot-clause-text
returns-in-NoDepot-clause-text c = rw c.in-NoDepot.is c.put.ensures

pub returns-in-NoBase-clause-text : goal.returns-in-NoBase-clause-text
returns-in-NoBase-clause-text c = rw c.in-NoBase.is c.put-in-NoBase.ensures

pub returns-in-DoublePart-clause-text : goal.returns-in-DoublePart-clause-text
returns-in-DoublePart-clause-text c = rw c.in-DoublePart.is c.put_at_row-in-DoublePart.ensures.text

pub returns-in-UnknownParent-clause-text : goal.returns-in-UnknownParent-clause-text
returns-in-UnknownParent-clause-text c = rw c.in-UnknownParent.is c.put_at_row-in-UnknownParent.ensures.text

pub returns-in-ParentNotLine-clause-text : goal.returns-in-ParentNotLine-clause-text
returns-in-ParentNotLine-clause-text c = rw c.in-ParentNotLine.is c.put_at_row-in-ParentNotLine.ensures.text

pub returns-in-TooManyShopUnits-clause-text : goal.returns-in-TooManyShopUnits-clause-text
returns-in-TooManyShopUnits-clause-text c = rw c.in-TooManyShopUnits.is c.put_at_row-in-TooManyShopUnits.ensures.text

pub returns-in-DoubleRate-clause-text : goal.returns-in-DoubleRate-clause-text
returns-in-DoubleRate-clause-text c = rw c.in-DoubleRate.is c.put_at_row-in-DoubleRate.ensures.text

pub returns-in-MissingRate-clause-text : goal.returns-in-MissingRate-clause-text
returns-in-MissingRate-clause-text c = rw c.in-MissingRate.is c.put_at_pair.ensures.text
