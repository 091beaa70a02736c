-- The kernel's attach types of programs.
use Rattle.program_kinds.specs.declared.attach.XdpAttachType.{XdpAttachType}
use Rattle.program_kinds.specs.declared.attach.XdpAttachType.TheVariants.{Interface, CpuMap, DevMap}
use Rattle.program_kinds.specs.declared.attach.SkSkbKind.{SkSkbKind}
use Rattle.program_kinds.specs.declared.attach.SkSkbKind.TheVariants.{StreamParser, StreamVerdict}
use Rattle.program_kinds.specs.declared.attach.SkReuseportAttachType.{SkReuseportAttachType}
use Rattle.program_kinds.specs.declared.attach.SkReuseportAttachType.TheVariants.{Select, SelectOrMigrate}
use Rattle.program_kinds.specs.declared.attach.CgroupSkbAttachType.{CgroupSkbAttachType}
use Rattle.program_kinds.specs.declared.attach.CgroupSkbAttachType.TheVariants.{Ingress, Egress}
use Rattle.program_kinds.specs.declared.attach.CgroupSockoptAttachType.{CgroupSockoptAttachType}
use Rattle.program_kinds.specs.declared.attach.CgroupSockoptAttachType.TheVariants.{Get, Set}
use Rattle.program_kinds.specs.declared.attach.CgroupSockAttachType.{CgroupSockAttachType}
use Rattle.program_kinds.specs.declared.attach.CgroupSockAttachType.TheVariants.{PostBind4, PostBind6, SockCreate, SockRelease}
use Rattle.program_kinds.specs.declared.attach.CgroupSockAddrAttachType.{CgroupSockAddrAttachType}
use Rattle.program_kinds.specs.declared.attach.CgroupSockAddrAttachType.TheVariants.{Bind4, Bind6, Connect4, Connect6, GetPeerName4, GetPeerName6, GetSockName4, GetSockName6, UDPSendMsg4, UDPSendMsg6, UDPRecvMsg4, UDPRecvMsg6}
use Rattle.program_kinds.specs.declared.bindings.bpf_attach_type.{bpf_attach_type}
use Rattle.program_kinds.specs.declared.bindings.bpf_attach_type.TheVariants.{BPF_CGROUP_INET_INGRESS, BPF_CGROUP_INET_EGRESS, BPF_CGROUP_INET_SOCK_CREATE, BPF_SK_SKB_STREAM_PARSER, BPF_SK_SKB_STREAM_VERDICT, BPF_CGROUP_INET4_BIND, BPF_CGROUP_INET6_BIND, BPF_CGROUP_INET4_CONNECT, BPF_CGROUP_INET6_CONNECT, BPF_CGROUP_INET4_POST_BIND, BPF_CGROUP_INET6_POST_BIND, BPF_CGROUP_UDP4_SENDMSG, BPF_CGROUP_UDP6_SENDMSG, BPF_CGROUP_UDP4_RECVMSG, BPF_CGROUP_UDP6_RECVMSG, BPF_CGROUP_GETSOCKOPT, BPF_CGROUP_SETSOCKOPT, BPF_CGROUP_INET4_GETPEERNAME, BPF_CGROUP_INET6_GETPEERNAME, BPF_CGROUP_INET4_GETSOCKNAME, BPF_CGROUP_INET6_GETSOCKNAME, BPF_XDP_DEVMAP, BPF_CGROUP_INET_SOCK_RELEASE, BPF_XDP_CPUMAP, BPF_XDP, BPF_SK_REUSEPORT_SELECT, BPF_SK_REUSEPORT_SELECT_OR_MIGRATE}

abbrev pub of_xdp : XdpAttachType → bpf_attach_type
of_xdp Interface = BPF_XDP
of_xdp CpuMap = BPF_XDP_CPUMAP
of_xdp DevMap = BPF_XDP_DEVMAP

abbrev pub of_sk_skb : SkSkbKind → bpf_attach_type
of_sk_skb StreamParser = BPF_SK_SKB_STREAM_PARSER
of_sk_skb StreamVerdict = BPF_SK_SKB_STREAM_VERDICT

abbrev pub of_sk_reuseport : SkReuseportAttachType → bpf_attach_type
of_sk_reuseport Select = BPF_SK_REUSEPORT_SELECT
of_sk_reuseport SelectOrMigrate = BPF_SK_REUSEPORT_SELECT_OR_MIGRATE

abbrev pub of_cgroup_skb : CgroupSkbAttachType → bpf_attach_type
of_cgroup_skb Ingress = BPF_CGROUP_INET_INGRESS
of_cgroup_skb Egress = BPF_CGROUP_INET_EGRESS

abbrev pub of_cgroup_sockopt : CgroupSockoptAttachType → bpf_attach_type
of_cgroup_sockopt Get = BPF_CGROUP_GETSOCKOPT
of_cgroup_sockopt Set = BPF_CGROUP_SETSOCKOPT

abbrev pub of_cgroup_sock : CgroupSockAttachType → bpf_attach_type
of_cgroup_sock PostBind4 = BPF_CGROUP_INET4_POST_BIND
of_cgroup_sock PostBind6 = BPF_CGROUP_INET6_POST_BIND
of_cgroup_sock SockCreate = BPF_CGROUP_INET_SOCK_CREATE
of_cgroup_sock SockRelease = BPF_CGROUP_INET_SOCK_RELEASE

abbrev pub of_cgroup_sock_addr : CgroupSockAddrAttachType → bpf_attach_type
of_cgroup_sock_addr Bind4 = BPF_CGROUP_INET4_BIND
of_cgroup_sock_addr Bind6 = BPF_CGROUP_INET6_BIND
of_cgroup_sock_addr Connect4 = BPF_CGROUP_INET4_CONNECT
of_cgroup_sock_addr Connect6 = BPF_CGROUP_INET6_CONNECT
of_cgroup_sock_addr GetPeerName4 = BPF_CGROUP_INET4_GETPEERNAME
of_cgroup_sock_addr GetPeerName6 = BPF_CGROUP_INET6_GETPEERNAME
of_cgroup_sock_addr GetSockName4 = BPF_CGROUP_INET4_GETSOCKNAME
of_cgroup_sock_addr GetSockName6 = BPF_CGROUP_INET6_GETSOCKNAME
of_cgroup_sock_addr UDPSendMsg4 = BPF_CGROUP_UDP4_SENDMSG
of_cgroup_sock_addr UDPSendMsg6 = BPF_CGROUP_UDP6_SENDMSG
of_cgroup_sock_addr UDPRecvMsg4 = BPF_CGROUP_UDP4_RECVMSG
of_cgroup_sock_addr UDPRecvMsg6 = BPF_CGROUP_UDP6_RECVMSG
