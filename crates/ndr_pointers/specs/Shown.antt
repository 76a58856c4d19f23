-- What the pointers of a stub show.
use Rattle.ndr_pointers.specs.declared.referents.Referents.{Referents}
use Rattle.ndr_pointers.specs.Known.{Known, mets}

abbrev pub known : Referents → Known
known r = record { met = mets r.met.items; given = r.given; ids = r.ids.entries }
