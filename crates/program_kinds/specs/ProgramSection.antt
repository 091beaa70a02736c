-- Kinds of programs, by the names of their sections.
use Rattle.std.specs.Prelude.{ℕ, ◌==◌, Bool, true, false, List, [], ◌∷◌, codes, Option, Some, None, is_none, option_and_then, bytes_eq, if◌then◌else◌}
use Rattle.std.specs.List.{before_first, after_first, list_any}
use Rattle.std.specs.Option.{option_map_or, option_or}
use Rattle.std.specs.Map.{lookup}
use Rattle.program_kinds.specs.declared.attach.XdpAttachType.TheVariants.{Interface, CpuMap, DevMap}
use Rattle.program_kinds.specs.declared.attach.SkSkbKind.TheVariants.{StreamParser, StreamVerdict}
use Rattle.program_kinds.specs.declared.attach.SkReuseportAttachType.TheVariants.{Select, SelectOrMigrate}
use Rattle.program_kinds.specs.declared.attach.CgroupSkbAttachType.TheVariants.{Ingress, Egress}
use Rattle.program_kinds.specs.declared.attach.CgroupSockoptAttachType.TheVariants.{Get, Set}
use Rattle.program_kinds.specs.declared.attach.CgroupSockAttachType.TheVariants.{PostBind4, PostBind6, SockCreate, SockRelease}
use Rattle.program_kinds.specs.declared.attach.CgroupSockAddrAttachType.TheVariants.{Bind4, Bind6, Connect4, Connect6, GetPeerName4, GetPeerName6, GetSockName4, GetSockName6, UDPSendMsg4, UDPSendMsg6, UDPRecvMsg4, UDPRecvMsg6}
use Rattle.program_kinds.specs.declared.program_section.ProgramSection.{ProgramSection}
use Rattle.program_kinds.specs.declared.program_section.ProgramSection.TheVariants.{KRetProbe, KProbe, UProbe, URetProbe, TracePoint, SocketFilter, Xdp, SkMsg, SkSkbStream, SockOps, SchedClassifier, CgroupSkb, CgroupSockAddr, CgroupSysctl, CgroupSockopt, LircMode2, PerfEvent, RawTracePoint, Lsm, LsmCgroup, BtfTracePoint, FEntry, FExit, FlowDissector, Extension, SkLookup, SkReuseport, CgroupSock, CgroupDevice, Iter}

abbrev pub is_slash : ℕ → Bool
is_slash byte = byte == 47

-- The pieces of a name are separated by slashes.
abbrev pub first_piece : List ℕ → List ℕ
first_piece name = before_first is_slash name

abbrev pub second_piece : List ℕ → Option (List ℕ)
second_piece name =
    if list_any is_slash name then Some (first_piece (after_first is_slash name)) else None

-- Kinds that the first piece alone decides.
abbrev pub plain_kinds : List (List ℕ × ProgramSection)
plain_kinds =
    (codes "kprobe", KProbe)
    ∷ (codes "kretprobe", KRetProbe)
    ∷ (codes "tp_btf", BtfTracePoint)
    ∷ (codes "tracepoint", TracePoint)
    ∷ (codes "tp", TracePoint)
    ∷ (codes "socket", SocketFilter)
    ∷ (codes "sk_msg", SkMsg)
    ∷ (codes "sockops", SockOps)
    ∷ (codes "classifier", SchedClassifier)
    ∷ (codes "lirc_mode2", LircMode2)
    ∷ (codes "perf_event", PerfEvent)
    ∷ (codes "raw_tp", RawTracePoint)
    ∷ (codes "raw_tracepoint", RawTracePoint)
    ∷ (codes "lsm_cgroup", LsmCgroup)
    ∷ (codes "flow_dissector", FlowDissector)
    ∷ (codes "freplace", Extension)
    ∷ (codes "sk_lookup", SkLookup)
    ∷ []

abbrev pub user_probe_kinds : List (List ℕ × ProgramSection)
user_probe_kinds =
    (codes "uprobe", UProbe false false)
    ∷ (codes "uprobe.s", UProbe true false)
    ∷ (codes "uprobe.multi", UProbe false true)
    ∷ (codes "uprobe.multi.s", UProbe true true)
    ∷ (codes "uretprobe", URetProbe false false)
    ∷ (codes "uretprobe.s", URetProbe true false)
    ∷ (codes "uretprobe.multi", URetProbe false true)
    ∷ (codes "uretprobe.multi.s", URetProbe true true)
    ∷ []

abbrev pub sleepable_kinds : List (List ℕ × ProgramSection)
sleepable_kinds =
    (codes "lsm", Lsm false)
    ∷ (codes "lsm.s", Lsm true)
    ∷ (codes "fentry", FEntry false)
    ∷ (codes "fentry.s", FEntry true)
    ∷ (codes "fexit", FExit false)
    ∷ (codes "fexit.s", FExit true)
    ∷ (codes "iter", Iter false)
    ∷ (codes "iter.s", Iter true)
    ∷ []

-- Kinds that the second piece decides, by the first piece. None is for a name without a second
-- piece.
abbrev pub xdp_kinds : Bool → List (Option (List ℕ) × ProgramSection)
xdp_kinds frags =
    (None, Xdp frags Interface)
    ∷ (Some (codes "cpumap"), Xdp frags CpuMap)
    ∷ (Some (codes "devmap"), Xdp frags DevMap)
    ∷ []

abbrev pub sk_skb_kinds : List (Option (List ℕ) × ProgramSection)
sk_skb_kinds =
    (Some (codes "stream_parser"), SkSkbStream StreamParser)
    ∷ (Some (codes "stream_verdict"), SkSkbStream StreamVerdict)
    ∷ []

abbrev pub sk_reuseport_kinds : List (Option (List ℕ) × ProgramSection)
sk_reuseport_kinds =
    (None, SkReuseport Select)
    ∷ (Some (codes "migrate"), SkReuseport SelectOrMigrate)
    ∷ []

abbrev pub cgroup_skb_kinds : List (Option (List ℕ) × ProgramSection)
cgroup_skb_kinds =
    (Some (codes "ingress"), CgroupSkb (Some Ingress))
    ∷ (Some (codes "egress"), CgroupSkb (Some Egress))
    ∷ []

abbrev pub cgroup_kinds : List (Option (List ℕ) × ProgramSection)
cgroup_kinds =
    (Some (codes "skb"), CgroupSkb None)
    ∷ (Some (codes "sysctl"), CgroupSysctl)
    ∷ (Some (codes "dev"), CgroupDevice)
    ∷ (Some (codes "getsockopt"), CgroupSockopt Get)
    ∷ (Some (codes "setsockopt"), CgroupSockopt Set)
    ∷ (Some (codes "sock"), CgroupSock SockCreate)
    ∷ (Some (codes "post_bind4"), CgroupSock PostBind4)
    ∷ (Some (codes "post_bind6"), CgroupSock PostBind6)
    ∷ (Some (codes "sock_create"), CgroupSock SockCreate)
    ∷ (Some (codes "sock_release"), CgroupSock SockRelease)
    ∷ (Some (codes "bind4"), CgroupSockAddr Bind4)
    ∷ (Some (codes "bind6"), CgroupSockAddr Bind6)
    ∷ (Some (codes "connect4"), CgroupSockAddr Connect4)
    ∷ (Some (codes "connect6"), CgroupSockAddr Connect6)
    ∷ (Some (codes "getpeername4"), CgroupSockAddr GetPeerName4)
    ∷ (Some (codes "getpeername6"), CgroupSockAddr GetPeerName6)
    ∷ (Some (codes "getsockname4"), CgroupSockAddr GetSockName4)
    ∷ (Some (codes "getsockname6"), CgroupSockAddr GetSockName6)
    ∷ (Some (codes "sendmsg4"), CgroupSockAddr UDPSendMsg4)
    ∷ (Some (codes "sendmsg6"), CgroupSockAddr UDPSendMsg6)
    ∷ (Some (codes "recvmsg4"), CgroupSockAddr UDPRecvMsg4)
    ∷ (Some (codes "recvmsg6"), CgroupSockAddr UDPRecvMsg6)
    ∷ []

abbrev pub parted_kinds : List (List ℕ × List (Option (List ℕ) × ProgramSection))
parted_kinds =
    (codes "xdp", xdp_kinds false)
    ∷ (codes "xdp.frags", xdp_kinds true)
    ∷ (codes "sk_skb", sk_skb_kinds)
    ∷ (codes "sk_reuseport", sk_reuseport_kinds)
    ∷ (codes "cgroup_skb", cgroup_skb_kinds)
    ∷ (codes "cgroup", cgroup_kinds)
    ∷ []

-- Whether a second piece is that of a row. A missing one is that of a row without a second piece.
abbrev pub is_second : Option (List ℕ) → Option (List ℕ) → Bool
is_second None row = is_none row
is_second (Some second) row = option_map_or (λ piece. bytes_eq second piece) row false

-- The kind in a table of first pieces, or of second pieces.
abbrev pub kind_by_first : List (List ℕ × ProgramSection) → List ℕ → Option ProgramSection
kind_by_first kinds first = lookup (bytes_eq first) kinds

abbrev pub kind_by_second : List (Option (List ℕ) × ProgramSection)
    → Option (List ℕ)
    → Option ProgramSection
kind_by_second kinds second = lookup (is_second second) kinds

-- The kind that the first piece alone decides.
abbrev pub unparted_kind : List ℕ → Option ProgramSection
unparted_kind first =
    option_or (option_or (kind_by_first plain_kinds first) (kind_by_first user_probe_kinds first))
    (kind_by_first sleepable_kinds first)

abbrev pub parted_kind : List ℕ → Option (List ℕ) → Option ProgramSection
parted_kind first second =
    option_and_then (λ kinds. kind_by_second kinds second) (lookup (bytes_eq first) parted_kinds)

abbrev pub kind_of_pieces : List ℕ → Option (List ℕ) → Option ProgramSection
kind_of_pieces first second = option_or (unparted_kind first) (parted_kind first second)

-- The kind of a program, by the name of its section.
abbrev pub kind_of_name : List ℕ → Option ProgramSection
kind_of_name name = kind_of_pieces (first_piece name) (second_piece name)
