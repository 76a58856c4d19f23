-- What contracts see of the desks.
use Rattle.desk_service.specs.declared.desks.ServiceDesks.{ServiceDesks}
use Rattle.desk_service.specs.Shows.{shown_by}
use Rattle.desk_service.specs.State.{Services}

-- the state of each desk
abbrev pub services : ServiceDesks → Services
services d = record { probes = d.probe; store = d.store; endpoints = d.endpoints; echo = shown_by (λ t. t) d.echo }
