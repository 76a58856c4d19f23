-- Histories of desks.
use Rattle.std.proofs.Common.{◌≡◌, Bool, List, [], ◌∷◌, ◌++◌, length, map, refl, sym, ap, ◌∙◌, subst, arith}
use Rattle.std.proofs.lemmas.List.{map-append}
use Rattle.handle_model.specs.declared.entry.DueItem.{DueItem}
use Rattle.manager_api.specs.Answers.{Ans}
use Rattle.manager_api.specs.Calls.{Call}
use Rattle.desk_told.specs.declared.deed.Deed.{Deed}
use Rattle.desk_told.specs.Deeds.{DeedForm, began, called, ran_down, form, By}
use Rattle.desk_told.specs.Histories.{Leads, IsHistory, Tells}
use Rattle.desk_told.specs.Laws.{EachFollows}

-- LISTS

-- the only item
pub one_item : {A : Type 0} (xs : List A) → length xs ≡ 1 → (x : A) × (xs ≡ x ∷ [])
one_item [] n = absurd (omega (arith, n))
one_item (x ∷ []) n = (x, refl)
one_item (x ∷ y ∷ ys) n = absurd (omega (arith, n))

abbrev last_of : {A : Type 0} → A → List A → A
last_of d [] = d
last_of d (x ∷ xs) = last_of x xs

last_snoc : {A : Type 0} (d : A) (xs : List A) (a : A) → last_of d (xs ++ a ∷ []) ≡ a
last_snoc d [] a = refl
last_snoc d (x ∷ xs) a = last_snoc x xs a

-- lists that are the same have the same last item
pub same_last : {A : Type 0} (xs ys : List A) (a b : A) → xs ++ a ∷ [] ≡ ys ++ b ∷ [] → a ≡ b
same_last xs ys a b e = sym (last_snoc a xs a) ∙ (ap (last_of a) e ∙ last_snoc a ys b)

abbrev state_in : {S : Type 0} → S → DeedForm S → S
state_in d (began s) = s
state_in d (called c told a) = d
state_in d (ran_down item) = d

abbrev head_in : {S : Type 0} → S → List (DeedForm S) → S
head_in d [] = d
head_in d (x ∷ xs) = state_in d x

-- HISTORIES

module _ {S : Type 0} (may : S → Call → Bool → Ans → S → Type 0) (downs : S → DueItem → S → Type 0) where
  leads_snoc : (s m t : S) (ds : List (DeedForm S)) (d : DeedForm S) → Leads may downs s ds m → By may downs d m t → Leads may downs s (ds ++ d ∷ []) t
  leads_snoc s m t [] d l b = (t, subst (λ (x : S). By may downs d x t) l b, refl)
  leads_snoc s m t (e ∷ ds) d l b = (l.0, l.1, leads_snoc l.0 m t ds d l.2 b)

  -- one more deed
  pub history_snoc : (first m t : S) (h : List (DeedForm S)) (d : DeedForm S) → IsHistory may downs first h m → By may downs d m t → IsHistory may downs first (h ++ d ∷ []) t
  history_snoc first m t h d i b = (i.0 ++ d ∷ [], ap (λ l. l ++ d ∷ []) i.1, leads_snoc first m t i.0 d i.2 b)

  -- a longer history is of the desk that began as the shorter one says
  pub same_first : (first other now later : S) (h more : List (DeedForm S)) → IsHistory may downs first h now → IsHistory may downs other (h ++ more) later → IsHistory may downs first (h ++ more) later
  same_first first other now later h more i j =
      let e : began first ∷ (i.0 ++ more) ≡ began other ∷ j.0 = sym (ap (λ l. l ++ more) i.1) ∙ j.1 in
      let is : first ≡ other = ap (head_in first) e in
      subst (λ (x : S). IsHistory may downs x (h ++ more) later) (sym is) j

  -- what the desk tells after one more deed
  pub tells_more : (before after : S) (last : DeedForm S) (items : List (Deed S)) (e : Deed S) → Tells may downs before last (map form items) → By may downs (form e) before after
      → Tells may downs after (form e) (map form (items ++ e ∷ []))
  tells_more before after last items e t b = subst (Tells may downs after (form e)) (sym (map-append form items (e ∷ []))) record {
    first = t.first;
    before = map form items;
    is = history_snoc t.first before after (map form items) (form e) t.is b;
    ends = refl;
  }

  -- THE LAW

  parts : (s now : S) (front back : List (DeedForm S)) (d : DeedForm S) → Leads may downs s (front ++ d ∷ back) now
      → (m : S) × (t : S) × Leads may downs s front m × By may downs d m t × Leads may downs t back now
  parts s now [] back d l = (s, l.0, refl, l.1, l.2)
  parts s now (e ∷ front) back d l = let r = parts l.0 now front back d l.2 in (r.0, r.1, (l.0, l.1, r.2), r.3, r.4)

  pub each_follows : EachFollows may downs
  each_follows first now item front back deed i =
      let e : item ∷ (front ++ deed ∷ back) ≡ began first ∷ i.0 = i.1 in
      let head : item ≡ began first = cc in
      let tails : front ++ deed ∷ back ≡ i.0 = cc in
      let p = parts first now front back deed (subst (λ ds. Leads may downs first ds now) (sym tails) i.2) in
      record { before = p.0; after = p.1; led = (front, ap (λ x. x ∷ front) head, p.2); does = p.3; goes_on = p.4 }
