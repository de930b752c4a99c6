-- What an item keeps, as a value.
use Rattle.laz_gpstime.specs.Slots.{TimeState}
use Rattle.laz_gpstime.specs.declared.times.Times.{Times}

abbrev pub state_of : Times → TimeState
state_of t = record { sequences = t.sequences; symbols = t.symbols; integers = t.integers }
