-- Entry of an exception and return from it keep a state admitted. Assumes nothing.
use Prim.Native.Nat.{ℕ}
use Rattle.std.specs.Prelude.{◌≡◌, true, false, Result, Option, Ok, Err}
use Rattle.manual.specs.declared.Fault.{Fault}
use Rattle.manual.specs.declared.Cpu.{Cpu}
use Rattle.manual.specs.declared.Reply.{Reply}
use Rattle.manual.specs.Registers.{address_of, with_address}
use Rattle.manual.specs.Reply.{Outcome, refusal, fault_reply, accessing, loading, taking}
use Rattle.manual.specs.Admitted.{emac_admitted, admitted}
use Rattle.manual.specs.Exceptions.{set_sr, handler_sr, pc_place, frame_place, handler_state, entered, return_state, returned}
use Rattle.manual.specs.Differences.{vector_place}
use Rattle.manual.specs.Memory.{Memory, access, load}
use Rattle.manual.specs.Word.{plus}
use Rattle.manual.specs.declared.Size.TheVariants.{Long}
use Rattle.state.specs.AdmittedLaws.{admitted-emac, address-admitted, pc-admitted, stopped_admitted, set_sr-admitted}

pub handler-admitted : (t : Cpu) (frame handler : ℕ) → admitted t ≡ true → admitted (handler_state t frame handler) ≡ true
unfolding handler_state
handler-admitted t frame handler h = stopped_admitted false _ (pc-admitted handler _ (address-admitted 7 frame t h))

pub return_state-admitted : (s : Cpu) (sp w pc : ℕ) → emac_admitted s.emac ≡ true → admitted (return_state s sp w pc) ≡ true
unfolding return_state with_address
return_state-admitted s sp w pc e = pc-admitted pc _ (set_sr-admitted w _ e)

pub refusal-admitted : (given : Cpu) (n : Reply) → admitted given ≡ true → admitted (refusal given n).cpu ≡ true
unfolding refusal
refusal-admitted given n h = h

-- ---- what goes on keeps it, and so does a refusal

module _ (given : Cpu) (m : Memory) (k : admitted given ≡ true) where
  pub accessing-admitted : (x : Result ℕ Fault) (f : ℕ → Outcome) → ((at : ℕ) → admitted (f at).stepped.cpu ≡ true) → admitted (accessing given m x f).stepped.cpu ≡ true
  accessing-admitted (Ok at) f h = h at
  accessing-admitted (Err x) f h = refusal-admitted given (fault_reply x) k

  pub loading-admitted : (x : Result ℕ Fault) (f : ℕ → Outcome) → ((v : ℕ) → admitted (f v).stepped.cpu ≡ true) → admitted (loading given m x f).stepped.cpu ≡ true
  loading-admitted (Ok v) f h = h v
  loading-admitted (Err x) f h = refusal-admitted given (fault_reply x) k

  pub taking-admitted : (x : Result Unit Fault) (o : Outcome) → admitted o.stepped.cpu ≡ true → admitted (taking given m x o).stepped.cpu ≡ true
  taking-admitted (Ok tt) o h = h
  taking-admitted (Err x) o h = refusal-admitted given (fault_reply x) k

  pub entered-admitted : (s : Cpu) (level : Option ℕ) (vector pc : ℕ) → admitted s ≡ true → admitted (entered given s level vector pc m).stepped.cpu ≡ true
  unfolding entered
  entered-admitted s level vector pc h =
      let t : Cpu = set_sr (handler_sr level s.sr) s in
      let sp : ℕ = address_of t.r 7 in
      accessing-admitted (access m (pc_place sp) 4) _ λ high.
      accessing-admitted (access m (frame_place sp) 4) _ λ low.
      accessing-admitted (access m (vector_place s.vbr vector) 4) _ λ table.
      handler-admitted t _ _ (set_sr-admitted (handler_sr level s.sr) s (admitted-emac s h))

  pub returned-admitted : (s : Cpu) → admitted s ≡ true → admitted (returned given s m).stepped.cpu ≡ true
  unfolding returned
  returned-admitted s h =
      let sp : ℕ = address_of s.r 7 in
      loading-admitted (load m sp Long) _ λ w.
      loading-admitted (load m (plus sp 4) Long) _ λ pc.
      return_state-admitted s sp w pc (admitted-emac s h)
