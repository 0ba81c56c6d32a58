use Rattle.mdf_drive.proofs.DriveOrders.{item_is, items_are, so_many_items}
use Rattle.mdf_drive.proofs.driving.tokens_are_matched_and_actors_go_on.Goals as goal

pub returns-clause-items : goal.returns-clause-items
returns-clause-items c = items_are

pub returns-clause-many : goal.returns-clause-many
returns-clause-many c = so_many_items

pub returns-clause-at : goal.returns-clause-at
returns-clause-at c = item_is
