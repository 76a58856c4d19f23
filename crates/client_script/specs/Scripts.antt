-- What a call script leads to.
use Rattle.std.specs.Prelude.{◌≡◌, ◌≢◌, ℕ, ◌+◌, ◌++◌, true, false, Some, List, [], ◌∷◌, length, replicate, slice_get, ◌⊎◌}
use Rattle.std.specs.List.{AllByRecursion, AllZip, flat_map}
use Rattle.std.specs.Option.{option_map}
use Rattle.rpc_base.specs.Causes.{Rose}
use Rattle.rpc_outside.specs.declared.address.Address.{Address}
use Rattle.rpc_outside.specs.Links.{Shown, IsNew}
use Rattle.rpc_outside.specs.Dials.{DialShown}
use Rattle.ndr_table.specs.Tables.{TableForm}
use Rattle.client_link.specs.Wires.{Spoken}
use Rattle.client_script.specs.declared.line.CallLine.{CallLine}
use Rattle.client_script.specs.Lines.{line_text, IsLine, BeginsWith, BeginsWithNoLine}
use Rattle.client_script.specs.declared.calling.CallEnd.{CallEnd}
use Rattle.client_script.specs.declared.calling.CallEnd.TheVariants as ends
use Rattle.client_script.specs.Worlds.{Association, World, nothing_yet}
use Rattle.client_script.specs.Steps.{Steps, IsBarred, DialsFor}
use Rattle.client_script.specs.Losses.{EndsAt, IsLostFrom}

unfoldable pub text_of_lines : List CallLine → List ℕ
text_of_lines lines = flat_map line_text lines

abbrev pub AreLines : List CallLine → Type 0
AreLines lines = AllByRecursion IsLine lines

-- a link is dialled for the line that begins the rest
abbrev pub DialsNext : World → List ℕ → Type 0
DialsNext w rest = (line : CallLine) × (after : List ℕ) × BeginsWith line after rest × DialsFor w line

module _ (interface : TableForm) where
  -- lines lead from one world to another
  abbrev pub Leads : World → List CallLine → World → Type 0
  Leads w [] v = v ≡ w
  Leads w (line ∷ lines) v = (u : World) × Steps interface w line u × Leads u lines v

  -- the text begins with lines that lead to a world, and then goes on
  pub record LeadsTo (text : List ℕ) (lines : List CallLine) (w : World) (rest : List ℕ) : Type 0 where
    pub are_lines : AreLines lines
    pub leads : Leads nothing_yet lines w
    pub written : text ≡ text_of_lines lines ++ rest

  -- all of it does
  abbrev pub IsPlayed : List ℕ → World → Type 0
  IsPlayed text w = (lines : List CallLine) × LeadsTo text lines w []

  -- no line begins the rest, which isn't empty; or one does that is barred
  abbrev pub HasNoNext : World → List ℕ → Type 0
  HasNoNext w rest = (BeginsWithNoLine rest × (rest ≢ [])) ⊎ ((line : CallLine) × (after : List ℕ) × BeginsWith line after rest × IsBarred w line)

  -- it does up to a line at which the connection at that place, which was as in a when the line put something or waited, is lost
  pub record IsPlayedUpTo (text : List ℕ) (at : ℕ) (a b : Association) (v : World) : Type 0 where
    pub lines : List CallLine
    pub before : World
    pub rest : List ℕ
    pub plays : LeadsTo text lines before rest
    pub line : CallLine
    pub after : List ℕ
    pub begins : BeginsWith line after rest
    pub ends : EndsAt interface before line at a b v

-- Links were opened to the address, as many as these, which were given back in their order.
pub record GivesLinks {K : Type 0} (a : DialShown K) (at : Address) (links : List K) (b : DialShown K) : Type 0 where
  pub dialled : b.dialled ≡ option_map (λ addresses. addresses ++ replicate (length links) at) a.dialled
  pub back : b.back ≡ option_map (λ before. before ++ links) a.back

module _ {K : Type 0} (shows : K → Shown) (interface : TableForm) where
  -- Over a link that was new, this happened on the connection; it is closed where a line closed that.
  pub record IsLinkOf (a : Association) (link : K) : Type 0 where
    pub new : Shown
    pub is_new : IsNew new
    pub spoken : Spoken interface new (shows link) a.events a.pending
    pub closed : (shows link).closed ≡ a.is_closed

  -- the link over which a connection was lost that was as in a before
  pub record IsLostLink (a b : Association) (link : K) : Type 0 where
    pub new : Shown
    pub is_new : IsNew new
    pub from : Shown
    pub lost : IsLostFrom interface a b new from (shows link)

  -- A link was opened to the address for each connection, and these were given back in the order of the connections.
  pub record GivesBack (a : DialShown K) (at : Address) (associations : List Association) (links : List K) (b : DialShown K) : Type 0 where
    pub are_links : AllZip IsLinkOf associations links
    pub dialled : b.dialled ≡ option_map (λ addresses. addresses ++ replicate (length associations) at) a.dialled
    pub back : b.back ≡ option_map (λ before. before ++ links) a.back

  -- what a call script came to, over the links of a dial
  abbrev pub Ends : List ℕ → Address → DialShown K → List ℕ → CallEnd → DialShown K → Type 0
  Ends text at a out ends.Done b = (w : World) × (links : List K) × IsPlayed interface text w × (w.failed ≡ false) × (out ≡ w.out) × GivesBack a at w.associations links b
  Ends text at a out ends.Failed b = (w : World) × (links : List K) × IsPlayed interface text w × (w.failed ≡ true) × (out ≡ w.out) × GivesBack a at w.associations links b
  Ends text at a out ends.Lost b =
      (w : World) × (links : List K) × (place : ℕ) × (before : Association) × (lost : Association) × (link : K) × IsPlayedUpTo interface text place before lost w × (out ≡ w.out) × GivesBack a at w.associations links b
      × (slice_get w.associations place ≡ Some lost) × (slice_get links place ≡ Some link) × IsLostLink before lost link
  Ends text at a out (ends.Line n) b =
      (w : World) × (links : List K) × (lines : List CallLine) × (rest : List ℕ) × LeadsTo interface text lines w rest × (n ≡ length lines + 1) × HasNoNext interface w rest × (out ≡ w.out) × GivesBack a at w.associations links b
  Ends text at a out ends.DialFault b =
      (w : World) × (links : List K) × (lines : List CallLine) × (rest : List ℕ) × LeadsTo interface text lines w rest × Rose a.faults b.faults × DialsNext w rest × (out ≡ w.out) × GivesBack a at w.associations links b
  Ends text at a out ends.Memory b = (links : List K) × GivesLinks a at links b
