-- A log by the first items of the drive list.
use Rattle.std.specs.Prelude.{◌≡◌, [], ◌∷◌, slice_get, Option, Some, None, if◌then◌else◌, nat_lt}
use Rattle.mdf_core.specs.declared.item.Item.{Item}
use Rattle.mdf_core.specs.declared.item.Item.TheVariants as item
use Rattle.mdf_core.specs.DriveList.{items}
use Rattle.mdf_core.specs.Events.{Event, Fire, Send, Create, Learn, Park, Resume, Reply, End, Beat, Match, Arrive, Accept, Quit}
use Rattle.mdf_core.specs.Steps.{Log, after}
use Rattle.mdf_core.specs.Worlds.{Job, World}

-- the item that an event is of; the machine's end is of none
abbrev pub item_of : Event → Option Item
item_of (Match place) = Some (item.Match place)
item_of (Arrive a) = Some (item.Arrive a)
item_of (Accept object a number) = Some (item.Accept object)
item_of (Fire a) = Some (item.Fire a)
item_of (Resume a) = Some (item.Resume a)
item_of (Send a turns callee member object arguments) = Some (item.Run a)
item_of (Create a turns class object) = Some (item.Run a)
item_of (Learn a turns call) = Some (item.Run a)
item_of (Park a turns call) = Some (item.Run a)
item_of (Reply a turns value) = Some (item.Run a)
item_of (End a turns ending state) = Some (item.Run a)
item_of (Beat a) = Some (item.Run a)
item_of (Quit why) = None

-- the first item; none where nothing is left to do, or the turns are above the budget
abbrev pub first_item : Job → World → Option Item
first_item job w = if nat_lt job.budget w.turns then None else slice_get (items job w) 0

-- Each event is of the first item, and the machine ends where there is none.
abbrev pub ByFirst : Job → Log → Type 0
ByFirst job [] = Unit {0}
ByFirst job (event ∷ before) = (first_item job (after job before) ≡ item_of event) × ByFirst job before
