-- Crate terminal: two results that one contract allows are equal. A theorem for each public function, in the order of the source.
use Rattle.std.specs.Prelude.{Bool, List, ◌≡◌, ℕ}
use Rattle.terminal.specs.declared.Answer.{Answer}
use Rattle.terminal.specs.declared.Started.{Started}
use Rattle.terminal.specs.declared.Terminal.{Terminal}
use Rattle.terminal.specs.Terminal.{never, outcome}
use Rattle.terminal.specs.AccountCalls.{login as AccountCalls·login, who as AccountCalls·who, logout as AccountCalls·logout, written, set_password}
use Rattle.terminal.specs.DeviceCalls.{read_next, read_random, write_next, write_random}
use Rattle.terminal.specs.Events.{key as Events·key, attention as Events·attention, fault as Events·fault}
use Rattle.terminal.specs.MemoryCalls.{load as MemoryCalls·load, store as MemoryCalls·store, flush as MemoryCalls·flush, configuration as MemoryCalls·configuration}
use Rattle.terminal.specs.Start.{start_of, start as Start·start}
use Rattle.terminal.specs.StopCalls.{shutdown as StopCalls·shutdown, powerdown as StopCalls·powerdown}
use Rattle.determined.specs.Determined.{AtMostOne, plain}
use Rattle.determined.specs.TerminalCalls.{by_outcome, by_written, by_start}

pub new : AtMostOne (λ (x : Terminal). x ≡ never)
new = plain _

pub login : (self : Terminal) (partition : ℕ) (name password tables : List ℕ)
    → AtMostOne (λ (x : Answer). x ≡ AccountCalls·login self partition name password tables)
login self partition name password tables = plain _

pub who : (self : Terminal) (partition : ℕ) (tables buffer : List ℕ)
    → AtMostOne (λ (x : Answer × List ℕ). outcome x.0 x.1 ≡ AccountCalls·who self partition tables buffer)
who self partition tables buffer = by_outcome _

pub logout : (self : Terminal) (partition : ℕ) → AtMostOne (λ (x : Answer). x ≡ AccountCalls·logout self partition)
logout self partition = plain _

pub set_password_lem : (self : Terminal) (partition : ℕ) (password : List ℕ) (taken : ℕ) (store tables : List ℕ)
    → AtMostOne (λ (x : Answer × List ℕ × List ℕ). written x.0 x.1 x.2 ≡ set_password self partition password taken store tables)
set_password_lem self partition password taken store tables = by_written _

pub read_next_lem : (self : Terminal) (partition major minor request : ℕ) (buffer : List ℕ)
    → AtMostOne (λ (x : Answer × List ℕ). outcome x.0 x.1 ≡ read_next self partition major minor request buffer)
read_next_lem self partition major minor request buffer = by_outcome _

pub read_random_lem : (self : Terminal) (partition major minor offset request : ℕ) (screens buffer : List ℕ)
    → AtMostOne (λ (x : Answer × List ℕ). outcome x.0 x.1 ≡ read_random self partition major minor offset request screens buffer)
read_random_lem self partition major minor offset request screens buffer = by_outcome _

pub write-next : (self : Terminal) (partition major minor request : ℕ) (bytes screens : List ℕ)
    → AtMostOne (λ (x : Answer × List ℕ). outcome x.0 x.1 ≡ write_next self partition major minor request bytes screens)
write-next self partition major minor request bytes screens = by_outcome _

pub write_random_lem : (self : Terminal) (partition major minor offset request : ℕ) (bytes screens : List ℕ)
    → AtMostOne (λ (x : Answer × List ℕ). outcome x.0 x.1 ≡ write_random self partition major minor offset request bytes screens)
write_random_lem self partition major minor offset request bytes screens = by_outcome _

pub key : (self : Terminal) (byte : ℕ) → AtMostOne (λ (x : Terminal). x ≡ Events·key byte self)
key self byte = plain _

pub attention : (self : Terminal) → AtMostOne (λ (x : Terminal). x ≡ Events·attention self)
attention self = plain _

pub fault : (self : Terminal) (partition device : ℕ) (set : Bool) → AtMostOne (λ (x : Terminal). x ≡ Events·fault partition device set self)
fault self partition device set = plain _

pub load : (self : Terminal) (permissions : List (List ℕ)) (partition selector offset : ℕ) (arena buffer : List ℕ)
    → AtMostOne (λ (x : Answer × List ℕ). outcome x.0 x.1 ≡ MemoryCalls·load self permissions partition selector offset arena buffer)
load self permissions partition selector offset arena buffer = by_outcome _

pub store : (self : Terminal) (permissions : List (List ℕ)) (partition selector offset : ℕ) (bytes arena : List ℕ)
    → AtMostOne (λ (x : Answer × List ℕ). outcome x.0 x.1 ≡ MemoryCalls·store self permissions partition selector offset bytes arena)
store self permissions partition selector offset bytes arena = by_outcome _

pub flush : (self : Terminal) (permissions : List (List ℕ)) (partition selector taken : ℕ) (arena store : List ℕ)
    → AtMostOne (λ (x : Answer × List ℕ). outcome x.0 x.1 ≡ MemoryCalls·flush self permissions partition selector taken arena store)
flush self permissions partition selector taken arena store = by_outcome _

pub configuration : (self : Terminal) (permissions : List (List ℕ)) (partition : ℕ) (store buffer : List ℕ)
    → AtMostOne (λ (x : Answer × List ℕ). outcome x.0 x.1 ≡ MemoryCalls·configuration self permissions partition store buffer)
configuration self permissions partition store buffer = by_outcome _

pub start : (self : Terminal) (count : ℕ) (active : List Bool) (soft : Bool) (text store arena tables screens : List ℕ) (permissions : List (List ℕ))
    → AtMostOne (λ (x : Started × List ℕ × List ℕ × List ℕ × List (List ℕ)). start_of x.0 x.1 x.2 x.3 x.4
    ≡ Start·start self count active soft text store arena tables screens permissions)
start self count active soft text store arena tables screens permissions = by_start _

pub shutdown : (self : Terminal) (partition : ℕ) (message screens : List ℕ)
    → AtMostOne (λ (x : Answer × List ℕ). outcome x.0 x.1 ≡ StopCalls·shutdown self partition message screens)
shutdown self partition message screens = by_outcome _

pub powerdown : (self : Terminal) (partition : ℕ) (screens : List ℕ)
    → AtMostOne (λ (x : Answer × List ℕ). outcome x.0 x.1 ≡ StopCalls·powerdown self partition screens)
powerdown self partition screens = by_outcome _
