-- The loops of the readers: what each has written and where the machine is.
use Rattle.idl_parts.proofs.Orders.{more_stars, more_dtors, more_names, more_labels}
use Rattle.idl_parts.proofs.Parts.{stars_none, stars_more, dtors_one, dtors_more, names_one, names_more, labels_one, labels_more}

pub ruleset stars = (more_stars, stars_none, stars_more)

pub ruleset dtors = (more_dtors, dtors_one, dtors_more)

pub ruleset names = (more_names, names_one, names_more)

pub ruleset labels = (more_labels, labels_one, labels_more)
